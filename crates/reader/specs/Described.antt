-- The bytes that a description stands for, how many they are, and what it is to read what a step of the definition gives.
-- s is the text, name the file's name, f the class file.
use Rattle.std.specs.Prelude.{ℕ, ◌+◌, ◌-◌, ◌≤◌, ◌<◌, ◌≡◌, [], ◌∷◌, ◌++◌, map, length, get_or, drop, Option, Some, None}
use Rattle.definition.specs.Basics.{Bytes, ch, Turn, again, done}
use Rattle.definition.specs.Text.{lexeme}
use Rattle.definition.specs.Tables.{cps}
use Rattle.definition.specs.Numbers.{show}
use Rattle.definition.specs.Trim.{split_lines, join_lines}
use Rattle.definition.specs.Position.{one_each}
use Rattle.definition.specs.State.{no_pos, advance, started}
use Rattle.definition.specs.Item.{Step}
use Rattle.definition.specs.Strings.{string_lit}
use Rattle.table_entries.specs.Entries.{texts}
use Rattle.position.specs.Columns.{Known}
use Rattle.position.specs.declared.Cache.{Cache}
use Rattle.definition.specs.declared.State.{State}
use Rattle.reader.specs.declared.ReadResult.{ReadResult}
use Rattle.reader.specs.declared.ReadResult.TheVariants.{Done, Again}
use Rattle.reader.specs.declared.Payload.{Payload}
use Rattle.reader.specs.declared.Payload.TheVariants.{Part, Text, Greater, Name, Line, FileLine, Literal, Piece, Blob}
use Rattle.reader.specs.declared.Read.{Read}

-- what the definition's `string_lit` reads from byte i on: it is the same from any state there
abbrev pub literal : Bytes → Bytes → ℕ → Bytes
literal s f i = (string_lit s f (advance (started 0 0) i) 0 no_pos).payload

-- each line without its first `width` bytes, as `maybe_trim_lines` cuts them
abbrev pub trimmed : ℕ → Bytes → Bytes
trimmed width comment = join_lines (map (drop width) (split_lines comment))

-- the bytes
abbrev pub bytes_of : Bytes → Bytes → Bytes → Payload → Bytes
bytes_of s name f (Part from to) = lexeme s from to
bytes_of s name f (Text k) = get_or texts k []
bytes_of s name f (Greater from to) = ch ">" ∷ lexeme s from to
bytes_of s name f Name = name
bytes_of s name f (Line n) = show n
bytes_of s name f (FileLine n) = name ++ (cps "(" ++ (show n ++ cps ")"))
bytes_of s name f (Literal from n) = literal s f from
bytes_of s name f (Piece from to width n) = trimmed width (lexeme s from to ++ cps "*)")
bytes_of s name f (Blob from to contents end) = lexeme s from to ++ lexeme s contents end

-- how many they are
abbrev pub length_of : Bytes → Payload → ℕ
length_of name (Part from to) = to - from
length_of name (Text k) = length (get_or texts k [])
length_of name (Greater from to) = 1 + (to - from)
length_of name Name = length name
length_of name (Line n) = length (show n)
length_of name (FileLine n) = length name + (length (show n) + 2)
length_of name (Literal from n) = n
length_of name (Piece from to width n) = n
length_of name (Blob from to contents end) = (to - from) + (end - contents)

-- how many they are where they are a part of the text or a text of the table, which are most payloads
abbrev pub short_length : Payload → Option ℕ
short_length (Part from to) = Some (to - from)
short_length (Text k) = Some (length (get_or texts k []))
short_length (Greater from to) = None
short_length Name = None
short_length (Line n) = None
short_length (FileLine n) = None
short_length (Literal from n) = None
short_length (Piece from to width n) = None
short_length (Blob from to contents end) = None

-- its text is one of the table
abbrev pub Listed : Payload → Type 0
Listed (Part from to) = Unit {0}
Listed (Text k) = k < 181
Listed (Greater from to) = Unit {0}
Listed Name = Unit {0}
Listed (Line n) = Unit {0}
Listed (FileLine n) = Unit {0}
Listed (Literal from n) = Unit {0}
Listed (Piece from to width n) = Unit {0}
Listed (Blob from to contents end) = Unit {0}

-- its parts lie in the text, and its text in the table of texts
abbrev pub Inside : Bytes → Payload → Type 0
Inside s (Part from to) = to ≤ length s
Inside s (Text k) = k < 181
Inside s (Greater from to) = to ≤ length s
Inside s Name = Unit {0}
Inside s (Line n) = Unit {0}
Inside s (FileLine n) = Unit {0}
Inside s (Literal from n) = Unit {0}
Inside s (Piece from to width n) = to ≤ length s
Inside s (Blob from to contents end) = (to ≤ length s) × (end ≤ length s)

-- a description whose length can be told: its text is one of the table, and its length is below 2^64
pub record Measurable (name : Bytes) (p : Payload) : Type 0 where
  pub listed : Listed p
  pub small : length_of name p < 18446744073709551616

-- a description whose length is a number of 32 bits
pub record Sized (name : Bytes) (p : Payload) : Type 0 where
  pub listed : Listed p
  pub small : length_of name p < 4294967296

-- p describes these bytes
pub record Describes (s name f : Bytes) (p : Payload) (bytes : Bytes) : Type 0 where
  pub is : bytes_of s name f p ≡ bytes
  pub long : length_of name p ≡ length bytes
  pub inside : Inside s p

-- the lexer's own columns, of which one is known
abbrev pub KnownAt : Bytes → State → Cache → Type 0
KnownAt s st known = Known one_each s st known

-- r is what the step t of the definition gives, and a column that is known after it
pub record Reads (s name f : Bytes) (t : Step) (r : Read) : Type 0 where
  pub item : r.item ≡ t.item
  pub payload : Describes s name f r.payload t.payload
  pub next : r.next ≡ t.next
  pub known : KnownAt s t.next r.known

-- a turn of a reader: it goes on from a state with a column that is known there, or it has read what the definition's turn answers
abbrev pub Turns : Bytes → Bytes → Bytes → Turn State Step → ReadResult → Type 0
Turns s name f (again b) (Again place) = (place.st ≡ b) × KnownAt s b place.known
Turns s name f (again b) (Done r) = ⊥
Turns s name f (done t) (Again place) = ⊥
Turns s name f (done t) (Done r) = Reads s name f t r
