-- White space and line ends that are passed before a choice is made. s is the text, f the class file.
use Rattle.std.specs.Prelude.{◌-◌, ◌≤◌, ◌≡◌, length, Option, Some, None}
use Rattle.definition.specs.Basics.{Bytes}
use Rattle.definition.specs.ClassFile.{class_check}
use Rattle.definition.specs.Token.{token_turn, next_token}
use Rattle.definition.specs.Utf16.{chosen_at}
use Rattle.definition.specs.declared.State.{State}
use Rattle.reader.specs.Described.{Turns}
use Rattle.reader.specs.Standing.{Standing}
use Rattle.reader.specs.declared.Cursor.{Cursor}
use Rattle.reader.specs.declared.ReadResult.TheVariants.{Again}

-- a reader stands between comments, and the class file is accepted
pub record Between (s f : Bytes) (at : Cursor) : Type 0 where
  pub standing : Standing s at.st at.known
  pub between : at.st.mode ≡ 0
  pub accepted : class_check f ≡ 0

-- where something is passed, a turn of the definition goes on there too
abbrev pub Passes : Bytes → Bytes → State → Option Cursor → Type 0
Passes s f st (Some p) = (name : Bytes) → Turns s name f (token_turn s name f st) (Again p)
Passes s f st None = Unit {0}

-- a reader stands at r as one at `at` does, reads the same item from there, given at the same place, and has no more of the text ahead of it
pub record AfterWhite (s f : Bytes) (at r : Cursor) : Type 0 where
  pub ready : Between s f r
  pub same : (name : Bytes) → next_token s name f r.st ≡ next_token s name f at.st
  pub given : (name : Bytes) → chosen_at s name f r.st ≡ chosen_at s name f at.st
  pub less : length s - r.st.offset ≤ length s - at.st.offset
