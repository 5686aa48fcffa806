-- What the reader of a line's comment asks, and what a reader of comments gives. A comment reads neither the file's name nor the class
-- file: what is read is the same for all of them.
use Rattle.std.specs.Prelude.{ℕ, ◌≤◌}
use Rattle.definition.specs.Basics.{Bytes}
use Rattle.definition.specs.Item.{Step}
use Rattle.reader.specs.Described.{Reads}
use Rattle.reader.specs.Standing.{Standing}
use Rattle.reader.specs.declared.Cursor.{Cursor}
use Rattle.reader.specs.declared.Read.{Read}

-- r is what the step t gives
abbrev pub ReadsAny : Bytes → Step → Read → Type 0
ReadsAny s t r = (name f : Bytes) → Reads s name f t r

-- a reader stands after what began at `from`
pub record After (s : Bytes) (from : ℕ) (at : Cursor) : Type 0 where
  pub standing : Standing s at.st at.known
  pub order : from ≤ at.st.offset
