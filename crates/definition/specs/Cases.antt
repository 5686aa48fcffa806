-- The table of document 01's twelve lines marked (M): each text with the items that the line states; two texts more; and, after document
-- 02, the table of surrogates (K1) and that of the bytes that items were read from (K3). proofs/Cases.antt computes that the definition
-- gives them. Texts start at 1:0, with the class file of no ranges.
use Rattle.std.specs.Prelude.{ℕ, Bool, true, false, List, [], ◌∷◌, ◌++◌, map, length, get_or}
use Prim.Native.String.{String}
use Rattle.definition.specs.Basics.{Bytes}
use Rattle.definition.specs.Kinds.{kind}
use Rattle.definition.specs.Tables.{cps}
use Rattle.definition.specs.Item.{mark}

-- "the class file of no ranges (48 bytes, each count 0, each offset 48)"
abbrev pub no_ranges : Bytes
no_ranges =
    0 ∷ 0 ∷ 0 ∷ 0 ∷ 48 ∷ 0 ∷ 0 ∷ 0
    ∷ 0 ∷ 0 ∷ 0 ∷ 0 ∷ 48 ∷ 0 ∷ 0 ∷ 0
    ∷ 0 ∷ 0 ∷ 0 ∷ 0 ∷ 48 ∷ 0 ∷ 0 ∷ 0
    ∷ 0 ∷ 0 ∷ 0 ∷ 0 ∷ 48 ∷ 0 ∷ 0 ∷ 0
    ∷ 0 ∷ 0 ∷ 0 ∷ 0 ∷ 48 ∷ 0 ∷ 0 ∷ 0
    ∷ 0 ∷ 0 ∷ 0 ∷ 0 ∷ 48 ∷ 0 ∷ 0 ∷ 0
    ∷ []

-- ---- items as they are written in the table: each is its eighteen numbers, word 6 being 0, and its payload's bytes

abbrev pub ListedItem : Type 0
ListedItem = List ℕ

-- words 0 to 8, then words 9 to 15, the bytes that it was read from, and the payload
abbrev pub item : ℕ → ℕ → ℕ → ℕ → ℕ → ℕ → ℕ → ℕ → List ℕ → ℕ → ℕ → String → ListedItem
item sort k l₁ c₁ l₂ c₂ size ncom extra from to payload =
    sort ∷ k ∷ l₁ ∷ c₁ ∷ l₂ ∷ c₂ ∷ 0 ∷ size ∷ ncom ∷ (extra ++ (from ∷ to ∷ cps payload))

abbrev pub no_extra : List ℕ
no_extra = 0 ∷ 0 ∷ 0 ∷ 0 ∷ 0 ∷ 0 ∷ 0 ∷ []

-- a token: its kind, its range, the comments so far, the bytes that it was read from, its payload
abbrev pub token : String → ℕ → ℕ → ℕ → ℕ → ℕ → ℕ → ℕ → String → ListedItem
token k l₁ c₁ l₂ c₂ ncom from to payload = item 1 (kind k) l₁ c₁ l₂ c₂ (length (cps payload)) ncom no_extra from to payload

-- the end: its position, the comments so far, its offset
abbrev pub eof : ℕ → ℕ → ℕ → ℕ → ListedItem
eof l c ncom at = token "EOF" l c l c ncom at at ""

-- a character literal on a first line of ASCII, where columns are offsets: its range, its code point
abbrev pub character : ℕ → ℕ → ℕ → ℕ → ℕ → ListedItem
character l₁ c₁ l₂ c₂ code = item 1 (kind "CHAR") l₁ c₁ l₂ c₂ 0 0 (1 ∷ code ∷ 0 ∷ 0 ∷ 0 ∷ 0 ∷ 0 ∷ []) c₁ c₂ ""

-- an error at 1:0 with a range from there to the column given: its number and its payload
abbrev pub error : ℕ → ℕ → String → ListedItem
error number col payload = item 1 (kind "ERROR") 1 0 1 0 (length (cps payload)) 0 (3 ∷ number ∷ 1 ∷ 0 ∷ 1 ∷ col ∷ 0 ∷ []) 0 0 payload

-- an error on a first line of ASCII that is empty, as its range is: its number and its column
abbrev pub error_at : ℕ → ℕ → ListedItem
error_at number col = item 1 (kind "ERROR") 1 col 1 col 0 0 (3 ∷ number ∷ 1 ∷ col ∷ 1 ∷ col ∷ 0 ∷ []) col col ""

-- a string from 1:0 up to the column given, on a line of ASCII: its payload, byte by byte
abbrev pub a_string : ℕ → Bytes → ListedItem
a_string to bytes = item 1 (kind "STRING") 1 0 1 to (length bytes) 0 no_extra 0 to "" ++ bytes

-- a blob: its range, its name, the position after its header, its header's start, its contents, the bytes that it was read from
abbrev pub a_blob : ℕ → ℕ → ℕ → ℕ → String → ℕ → ℕ → ℕ → ℕ → String → ℕ → ℕ → ListedItem
a_blob l₁ c₁ l₂ c₂ name pl pc sl sc contents from to =
    let extra : List ℕ = 2 ∷ length (cps contents) ∷ pl ∷ pc ∷ sl ∷ sc ∷ 0 ∷ [] in
    item 1 (kind "BLOB") l₁ c₁ l₂ c₂ (length (cps name)) 0 extra from to "" ++ (cps name ++ cps contents)

-- a comment: its range, its number, whether it is closed, the bytes that it was read from, its text
abbrev pub a_comment : ℕ → ℕ → ℕ → ℕ → ℕ → Bool → ℕ → ℕ → String → ListedItem
a_comment l₁ c₁ l₂ c₂ number closed from to payload =
    item 2 0 l₁ c₁ l₂ c₂ (length (cps payload)) number (mark closed ∷ 0 ∷ 0 ∷ 0 ∷ 0 ∷ 0 ∷ 0 ∷ []) from to payload

-- a text with its items
abbrev pub Case : Type 0
Case = String × List ListedItem

-- ---- the twelve lines, in document 01's order

unfoldable pub m_cases : List Case
m_cases =
    -- `1.5` and `1e5` are error 5. `1e+5` is error 5 with payload `1e`; `1e+55` is error 5 whole.
    ("1.5", error 5 3 "1.5" ∷ [])
    ∷ ("1e5", error 5 3 "1e5" ∷ [])
    ∷ ("1e+5", error 5 2 "1e" ∷ [])
    ∷ ("1e+55", error 5 5 "1e+55" ∷ [])
    -- `1.5R` is REAL `1.5`. `1.` is INT, DOT.
    ∷ ("1.5R", token "REAL" 1 0 1 4 0 0 4 "1.5" ∷ eof 1 4 0 4 ∷ [])
    ∷ ("1.", token "INT" 1 0 1 1 0 0 1 "1" ∷ token "DOT" 1 1 1 2 0 1 2 "" ∷ eof 1 2 0 2 ∷ [])
    -- `255uy` is UINT8, `256uy` and `256z` are error 4, `300y` is INT8 `300`.
    ∷ ("255uy", token "UINT8" 1 0 1 5 0 0 5 "255" ∷ eof 1 5 0 5 ∷ [])
    ∷ ("256uy", error 4 5 "" ∷ [])
    ∷ ("256z", error 4 4 "" ∷ [])
    ∷ ("300y", token "INT8" 1 0 1 4 0 0 4 "300" ∷ eof 1 4 0 4 ∷ [])
    -- `>` is OPINFIX0c `>` at 1:1 to 1:1: the range begins one byte late.
    ∷ (">", token "OPINFIX0c" 1 1 1 1 0 0 1 ">" ∷ eof 1 1 0 1 ∷ [])
    -- `-//c` is OPINFIX2 `-`, not MINUS. `->//` is OPINFIX2 `->`. `let//c` is LET.
    ∷ ("-//c", token "OPINFIX2" 1 0 1 1 0 0 1 "-" ∷ a_comment 1 3 1 4 1 true 1 4 "//c" ∷ eof 1 4 1 4 ∷ [])
    ∷ ("->//", token "OPINFIX2" 1 0 1 2 0 0 2 "->" ∷ a_comment 1 4 1 4 1 true 2 4 "//" ∷ eof 1 4 1 4 ∷ [])
    ∷ ("let//c", token "LET" 1 0 1 3 0 0 3 "" ∷ a_comment 1 5 1 6 1 true 3 6 "//c" ∷ eof 1 6 1 6 ∷ [])
    -- `//c` is a comment `//c` ranged from 1:2; `///c` is a comment `///c` ranged from 1:0. `// IN F*:` is skipped and code follows.
    ∷ ("//c", a_comment 1 2 1 3 1 true 0 3 "//c" ∷ eof 1 3 1 3 ∷ [])
    ∷ ("///c", a_comment 1 0 1 4 1 true 0 4 "///c" ∷ eof 1 4 1 4 ∷ [])
    ∷ ("// IN F*: x", token "IDENT" 1 10 1 11 0 10 11 "x" ∷ eof 1 11 0 11 ∷ [])
    -- `(* a (* b *) c *)` gives two comments, `(* a (* b *)` and ` c *)`, both ranged from 1:0. `(*)` opens a comment.
    ∷ ("(* a (* b *) c *)", a_comment 1 0 1 12 1 true 0 12 "(* a (* b *)" ∷ a_comment 1 0 1 17 2 true 12 17 " c *)" ∷ eof 1 17 2 17 ∷ [])
    ∷ ("(*)", a_comment 1 0 1 3 1 false 0 3 "(*)*)" ∷ eof 1 3 1 3 ∷ [])
    -- `(* a (* b` gives `(* a (* b*)` and `*)`, both marked unclosed, then EOF.
    ∷ ("(* a (* b", a_comment 1 0 1 9 1 false 0 9 "(* a (* b*)" ∷ a_comment 1 0 1 9 2 false 9 9 "*)" ∷ eof 1 9 2 9 ∷ [])
    -- A comment that begins `(*` is never trimmed. What follows an inner close is: with the outer opening in column 4, remainder
    -- `  c *)` becomes `c *)`.
    ∷ ("    (* a\n     b *)", a_comment 1 4 2 9 1 true 4 18 "(* a\n     b *)" ∷ eof 2 9 1 18 ∷ [])
    ∷ ("    (* a (* b *)  c *)", a_comment 1 4 1 16 1 true 4 16 "(* a (* b *)" ∷ a_comment 1 4 1 22 2 true 16 22 "c *)" ∷ eof 1 22 2 22 ∷ [])
    -- `'a'` is CHAR, `'ab'` IDENT, `'a'b` IDENT. A raw newline between quotes is CHAR and starts no new line.
    ∷ ("'a'", character 1 0 1 3 97 ∷ eof 1 3 0 3 ∷ [])
    ∷ ("'ab'", token "IDENT" 1 0 1 4 0 0 4 "'ab'" ∷ eof 1 4 0 4 ∷ [])
    ∷ ("'a'b", token "IDENT" 1 0 1 4 0 0 4 "'a'b" ∷ eof 1 4 0 4 ∷ [])
    ∷ ("'\n'", character 1 0 1 3 10 ∷ eof 1 3 0 3 ∷ [])
    -- Backslash, line end, 3 spaces inside a string: all dropped, and the next character has column 0.
    ∷ ("\"a\\\n   b\"", token "STRING" 1 0 2 2 0 0 9 "ab" ∷ eof 2 2 0 9 ∷ [])
    -- ```f x``` on one line is IDENT `f x and then BACKTICK; a blob opens only when no such identifier is longer.
    ∷ ("```f x```", token "IDENT" 1 0 1 8 0 0 8 "`f x" ∷ token "BACKTICK" 1 8 1 9 0 8 9 "" ∷ eof 1 9 0 9 ∷ [])
    ∷ ("```f\nx```", a_blob 2 1 2 4 "f" 1 4 1 0 "\nx" 0 9 ∷ eof 2 4 0 9 ∷ [])
    ∷ []

-- ---- two of document 01's misreadings that no such line would show: columns count characters, and a keyword is a whole word

unfoldable pub misreading_cases : List Case
misreading_cases =
    ("αx 1", token "IDENT" 1 0 1 2 0 0 3 "αx" ∷ token "INT" 1 3 1 4 0 4 5 "1" ∷ eof 1 4 0 5 ∷ [])
    ∷ ("lets", token "IDENT" 1 0 1 4 0 0 4 "lets" ∷ eof 1 4 0 4 ∷ [])
    ∷ []

-- ---- surrogates, by document 02, K1

-- U+1F600
abbrev pub emoji : Bytes
emoji = 0xF0 ∷ 0x9F ∷ 0x98 ∷ 0x80 ∷ []

unfoldable pub surrogate_cases : List Case
surrogate_cases =
    -- "`\u` D800 to DBFF followed at once by `\u` DC00 to DFFF is one character: `\uD83D\uDE00` is U+1F600", in either case of the digits
    ("\"\\uD83D\\uDE00\"", a_string 14 emoji ∷ eof 1 14 0 14 ∷ [])
    ∷ ("\"\\ud83d\\ude00\"", a_string 14 emoji ∷ eof 1 14 0 14 ∷ [])
    ∷ ("\"\\ud83D\\uDe00\"", a_string 14 emoji ∷ eof 1 14 0 14 ∷ [])
    ∷ ("\"a\\uD83D\\uDE00\\uD83D\\uDE00b\"", a_string 28 (97 ∷ (emoji ++ (emoji ++ (98 ∷ [])))) ∷ eof 1 28 0 28 ∷ [])
    -- the least pair, the greatest, and the high half of each with the low half of the other
    ∷ ("\"\\uD800\\uDC00\"", a_string 14 (0xF0 ∷ 0x90 ∷ 0x80 ∷ 0x80 ∷ []) ∷ eof 1 14 0 14 ∷ [])
    ∷ ("\"\\uDBFF\\uDFFF\"", a_string 14 (0xF4 ∷ 0x8F ∷ 0xBF ∷ 0xBF ∷ []) ∷ eof 1 14 0 14 ∷ [])
    ∷ ("\"\\uD800\\uDFFF\"", a_string 14 (0xF0 ∷ 0x90 ∷ 0x8F ∷ 0xBF ∷ []) ∷ eof 1 14 0 14 ∷ [])
    ∷ ("\"\\uDBFF\\uDC00\"", a_string 14 (0xF4 ∷ 0x8F ∷ 0xB0 ∷ 0x80 ∷ []) ∷ eof 1 14 0 14 ∷ [])
    -- "Error 7 remains for an unpaired half, at its own backslash": a high half before another, a half too many, a low half by itself, before
    -- a high one, and before another
    ∷ ("\"\\uD83D\\uD83D\\uDE00\"", error_at 7 1 ∷ [])
    ∷ ("\"\\uD83D\\uDE00\\uDE00\"", error_at 7 13 ∷ [])
    ∷ ("\"\\uD83D\\uDE00\\uD83D\"", error_at 7 13 ∷ [])
    ∷ ("\"\\uDE00\"", error_at 7 1 ∷ [])
    ∷ ("\"\\uDE00\\uD83D\"", error_at 7 1 ∷ [])
    ∷ ("\"\\uDC00\\uDC00\"", error_at 7 1 ∷ [])
    ∷ ("\"\\uDFFF\\uDFFF\"", error_at 7 1 ∷ [])
    -- no low half after the high one: by one to either side, by its digits, by its letter
    ∷ ("\"\\uD83D\\uDBFF\"", error_at 7 1 ∷ [])
    ∷ ("\"\\uD83D\\uE000\"", error_at 7 1 ∷ [])
    ∷ ("\"\\uD83D\\uDE0\"", error_at 7 1 ∷ [])
    ∷ ("\"\\uD83D\\xDE00\"", error_at 7 1 ∷ [])
    -- a low half, but not at once: an escaped backslash, a blank, a backslash and a line's end
    ∷ ("\"\\uD83D\\\\uDE00\"", error_at 7 1 ∷ [])
    ∷ ("\"\\uD83D \\uDE00\"", error_at 7 1 ∷ [])
    ∷ ("\"\\uD83D\\\n\\uDE00\"", error_at 7 1 ∷ [])
    -- the text ends after the high half, or in the middle of the second escape: not error 1
    ∷ ("\"\\uD83D", error_at 7 1 ∷ [])
    ∷ ("\"\\uD83D\\", error_at 7 1 ∷ [])
    ∷ ("\"\\uD83D\\u", error_at 7 1 ∷ [])
    ∷ ("\"\\uD83D\\uDE0", error_at 7 1 ∷ [])
    -- and after the pair: error 1
    ∷ ("\"\\uD83D\\uDE00", error_at 1 13 ∷ [])
    -- below and above the surrogates
    ∷ ("\"\\uD7FF\\uE000\"", a_string 14 (0xED ∷ 0x9F ∷ 0xBF ∷ 0xEE ∷ 0x80 ∷ 0x80 ∷ []) ∷ eof 1 14 0 14 ∷ [])
    -- "Character literals keep their one-escape pattern"
    ∷ ("'\\uD83D'", character 1 0 1 8 0xD83D ∷ eof 1 8 0 8 ∷ [])
    ∷ ("'\\uD83D\\uDE00'", token "IDENT" 1 0 1 1 0 0 1 "'" ∷ error_at 6 1 ∷ [])
    ∷ []

-- ---- where the bytes were, by document 02, K3: each text with the start and end offset of every item

unfoldable pub span_cases : List (String × List (ℕ × ℕ))
span_cases =
    -- "A `>` token starts at its `>`", though its position is one later
    (">1", (0, 1) ∷ (1, 2) ∷ (2, 2) ∷ [])
    ∷ (" >=1", (1, 3) ∷ (3, 4) ∷ (4, 4) ∷ [])
    -- "a line comment at its first slash", though its position may be two later; a cut at `//` ends an item where it cuts
    ∷ (" //c", (1, 4) ∷ (4, 4) ∷ [])
    ∷ ("-//c", (0, 1) ∷ (1, 4) ∷ (4, 4) ∷ [])
    ∷ (">//c", (0, 1) ∷ (1, 4) ∷ (4, 4) ∷ [])
    ∷ ("let+//c", (0, 4) ∷ (4, 7) ∷ (7, 7) ∷ [])
    ∷ ("///c", (0, 4) ∷ (4, 4) ∷ [])
    ∷ ("///c\n", (0, 4) ∷ (5, 5) ∷ [])
    -- "a blob at its header", of either kind, though its position is where its contents end
    ∷ (" ```f\nx``` y", (1, 10) ∷ (11, 12) ∷ (12, 12) ∷ [])
    ∷ (" #lang-f\nx", (1, 10) ∷ (10, 10) ∷ [])
    -- "A comment's later piece starts where the last ended"
    ∷ ("(* a (* b *) c *)", (0, 12) ∷ (12, 17) ∷ (17, 17) ∷ [])
    ∷ (" (*(*(**)*)*) ", (1, 9) ∷ (9, 11) ∷ (11, 13) ∷ (14, 14) ∷ [])
    -- "Of a comment's unclosed pieces the first ends at the text's end and the others are empty there"
    ∷ ("(* a (* b", (0, 9) ∷ (9, 9) ∷ (9, 9) ∷ [])
    ∷ ("(* (* a *) b", (0, 10) ∷ (10, 12) ∷ (12, 12) ∷ [])
    -- "EOF and ERROR are empty at their position": an unterminated string's and blob's is the text's end, a surrogate's its backslash, and
    -- any other's where the choice was made; error 5's payload is the part, and its span is empty all the same
    ∷ ("", (0, 0) ∷ [])
    ∷ (" \n", (2, 2) ∷ [])
    ∷ ("\"ab", (3, 3) ∷ [])
    ∷ (" ```f\nx", (7, 7) ∷ [])
    ∷ (" uu___a", (1, 1) ∷ [])
    ∷ (" 256uy", (1, 1) ∷ [])
    ∷ (" 1.5", (1, 1) ∷ [])
    ∷ ("a É", (0, 1) ∷ (2, 2) ∷ [])
    ∷ ("x \"\\uD800\"", (0, 1) ∷ (3, 3) ∷ [])
    -- white space and line ends are in no item; a literal has its quotes, and a string its line ends too
    ∷ ("  a\n'b'", (2, 3) ∷ (4, 7) ∷ (7, 7) ∷ [])
    ∷ (" \"a\n\" ", (1, 5) ∷ (6, 6) ∷ [])
    -- offsets count bytes
    ∷ ("(*α*)β", (0, 6) ∷ (6, 8) ∷ (8, 8) ∷ [])
    ∷ []

-- words 16 and 17 of an item
abbrev pub span_of : ListedItem → ℕ × ℕ
span_of l = (get_or l 16 0, get_or l 17 0)

-- ---- the texts of such a table, and what is expected of them

abbrev pub texts : {A : Type 0} → List (String × A) → List Bytes
texts {A} cases = map (λ (c : String × A). cps c.0) cases

abbrev pub expected : {A : Type 0} → List (String × A) → List A
expected {A} cases = map (λ (c : String × A). c.1) cases
