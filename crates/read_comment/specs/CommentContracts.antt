-- What the reader of a comment's pieces asks, and what its turns give. A comment reads neither the file's name nor the class file: what
-- is read is the same for all of them.
use Rattle.std.specs.Prelude.{ℕ, ◌+◌, ◌≤◌, ◌≡◌, false, ◌&&◌, length, None}
use Rattle.definition.specs.Basics.{Bytes, Turn, ch}
use Rattle.definition.specs.Text.{byte_is, run_end}
use Rattle.definition.specs.Matchers.{match_newline}
use Rattle.definition.specs.Item.{Step}
use Rattle.definition.specs.Comment.{comment_stop}
use Rattle.definition.specs.declared.State.{State}
use Rattle.reader.specs.Described.{Turns}
use Rattle.reader.specs.Standing.{Standing}
use Rattle.reader.specs.declared.Cursor.{Cursor}
use Rattle.reader.specs.declared.ReadResult.{ReadResult}

-- r is what the turn t gives
abbrev pub TurnsAny : Bytes → Turn State Step → ReadResult → Type 0
TurnsAny s t r = (name f : Bytes) → Turns s name f t r

-- a reader stands in a comment
pub record InComment (s : Bytes) (at : Cursor) : Type 0 where
  pub standing : Standing s at.st at.known
  pub mode : at.st.mode ≡ 1

-- at a character that ends a run, or at the text's end
pub record AtStop (s : Bytes) (at : Cursor) : Type 0 where
  pub inside : InComment s at
  pub stop : run_end comment_stop s at.st.offset ≤ at.st.offset

-- where moreover no level is opened and no line ends
pub record AtMark (s : Bytes) (at : Cursor) : Type 0 where
  pub stopped : AtStop s at
  pub shut : byte_is (ch "(") s at.st.offset && byte_is (ch "*") s (at.st.offset + 1) ≡ false
  pub line : match_newline s at.st.offset ≡ None

-- a reader stands after a piece whose text ends at `to`
pub record Ending (s : Bytes) (to : ℕ) (at : Cursor) : Type 0 where
  pub standing : Standing s at.st at.known
  pub within : to ≤ length s
