-- What a run that isn't refused was given. s is the text, name the file's name, f the class file, st the state.
use Rattle.std.specs.Prelude.{◌≤◌, ◌≡◌, length}
use Rattle.definition.specs.Basics.{Bytes}
use Rattle.definition.specs.ClassFile.{class_check}
use Rattle.definition.specs.declared.State.{State}
use Rattle.state.specs.Sound.{Stands}

-- a name that is not too long, a class file without fault, a legal text that is not too long, and a state that is sound in it
pub record Accepted (s name f : Bytes) (st : State) : Type 0 where
  pub named : length name ≤ 4096
  pub classes : class_check f ≡ 0
  pub stands : Stands s st
