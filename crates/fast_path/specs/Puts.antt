-- What writing a token asks for and does. s is the text, here the cursor of the reader after white space; rs and ps are the
-- buffers before, rs' and ps' those after.
use Rattle.std.specs.Prelude.{ℕ, ◌+◌, ◌-◌, ◌≤◌, ◌<◌, ◌≡◌, List, [], length, Option, Some, None}
use Rattle.definition.specs.Basics.{Bytes}
use Rattle.definition.specs.Position.{one_each, pos_of}
use Rattle.definition.specs.State.{advance}
use Rattle.definition.specs.Item.{record_size, words}
use Rattle.definition.specs.Run.{put}
use Rattle.position.specs.Columns.{column_at}
use Rattle.position.specs.AsciiRuns.{Plain}
use Rattle.position.specs.declared.columns.AsciiRun.{AsciiRun}
use Rattle.reader.specs.declared.Cursor.{Cursor}
use Rattle.reader.specs.declared.Payload.{Payload}
use Rattle.reader.specs.Described.{bytes_of, short_length, Inside}
use Rattle.record.specs.Numbers.{plain_item}
use Rattle.reader.specs.Actions.{Spans}
use Rattle.reader.specs.declared.actions.Action.{Action}
use Rattle.reader.specs.declared.actions.Action.TheVariants.{Token, Error, LineComment}
use Rattle.fast_path.specs.declared.puts.TokenPut.{TokenPut}

-- a token's record and its short payload of `size` bytes fit after what is written
pub record PairFits (s : Bytes) (p : Payload) (size first used : ℕ) (rs : List ℕ) (ps : Bytes) : Type 0 where
  pub short : short_length p ≡ Some size
  pub inside : Inside s p
  pub begun : first ≤ length rs
  pub record_room : record_size ≤ length rs - first
  pub filled : used ≤ length ps
  pub payload_room : size ≤ length ps - used
  pub small : size < 4294967296
  pub little : used < 4294967296

-- what writing asks for besides: where the buffers are written so far, and a run of ASCII
pub record Writes (s : Bytes) (first used : ℕ) (known : AsciiRun) (rs : List ℕ) (ps : Bytes) : Type 0 where
  pub begun : first ≤ length rs
  pub filled : used ≤ length ps
  pub little : used < 4294967296
  pub plain : Plain s known

-- what a token up to e asks for, whose position is that of i. No short payload has the file's name in it, so that any name will do
pub record TokenAsks (s : Bytes) (here : Cursor) (i e : ℕ) (p : Payload) (first used : ℕ) (plain : AsciiRun) (rs : List ℕ) (ps : Bytes) : Type 0 where
  pub spans : Spans s [] here i e p
  pub inside : Inside s p
  pub writes : Writes s first used plain rs ps

-- what an action asks for
abbrev pub ActionAsks : Bytes → Cursor → Action → ℕ → ℕ → AsciiRun → List ℕ → Bytes → Type 0
ActionAsks s here (Token k i e p) first used plain rs ps = TokenAsks s here i e p first used plain rs ps
ActionAsks s here (Error n p) first used plain rs ps = Unit {0}
ActionAsks s here LineComment first used plain rs ps = Unit {0}

-- a token up to e was written, whose position is that of i, and reading goes on after it
pub record Written (s : Bytes) (here : Cursor) (k i e : ℕ) (p : Payload) (first used : ℕ) (rs : List ℕ) (ps : Bytes) (next : Cursor) (used' : ℕ)
    (known : AsciiRun) (rs' : List ℕ) (ps' : Bytes) : Type 0 where
  pub size : ℕ
  pub short : short_length p ≡ Some size
  pub record_room : record_size ≤ length rs - first
  pub payload_room : size ≤ length ps - used
  pub after : next ≡ record { st = advance here.st e; known = column_at one_each s here.st e }
  pub spent : used' ≡ used + size
  pub records : rs' ≡ put rs first (words (plain_item k (pos_of s here.st i) (pos_of s here.st e) size here.st.comments here.st.offset e) used)
  pub payload : (name f : Bytes) → ps' ≡ put ps used (bytes_of s name f p)
  pub plain : Plain s known

-- what became of an action: where it was left both buffers are what they were
abbrev pub Puts : Bytes → Cursor → Action → ℕ → ℕ → List ℕ → Bytes → Option TokenPut → List ℕ → Bytes → Type 0
Puts s here x first used rs ps None rs' ps' = (rs' ≡ rs) × (ps' ≡ ps)
Puts s here (Token k i e p) first used rs ps (Some t) rs' ps' = Written s here k i e p first used rs ps t.next t.used t.plain rs' ps'
Puts s here (Error n p) first used rs ps (Some t) rs' ps' = ⊥
Puts s here LineComment first used rs ps (Some t) rs' ps' = ⊥
