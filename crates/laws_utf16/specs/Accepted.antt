-- What a second run that isn't refused was given. s is the text, name the file's name, f the class file, g the saved state.
use Rattle.std.specs.Prelude.{◌≤◌, ◌≡◌, true, false}
use Rattle.definition.specs.Basics.{Bytes}
use Rattle.definition.specs.State.{sound}
use Rattle.definition.specs.Run.{refusal}
use Rattle.definition.specs.Utf16.{by_second, line_zero}
use Rattle.definition.specs.declared.Utf16State.{Utf16State}
use Rattle.state.specs.Sound.{Sound, Stands}

-- by the tests: nine numbers that the first run takes, second columns that "obey every rule of the first", and no line 0
pub record Utf16Taken (s name f : Bytes) (g : Utf16State) : Type 0 where
  pub first : (refusal s name f g.first).0 ≡ 0
  pub second : sound s (by_second g) ≡ true
  pub lines : line_zero g ≡ false

-- by what they say of a state in a legal text that is not too long
pub record Utf16Stands (s : Bytes) (g : Utf16State) : Type 0 where
  pub first : Stands s g.first
  pub second : Sound s (by_second g)
  pub line : 1 ≤ g.first.line
  pub comment_line : g.first.mode ≡ 1 → 1 ≤ g.first.comment.line
