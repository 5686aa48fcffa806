-- What is asked where an item is read. s is the text, name the file's name, f the class file.
use Rattle.std.specs.Prelude.{◌≤◌, ◌≡◌, [], length}
use Rattle.definition.specs.Basics.{Bytes}
use Rattle.definition.specs.ClassFile.{class_check}
use Rattle.definition.specs.Position.{cur_pos}
use Rattle.definition.specs.Kinds.{kind}
use Rattle.definition.specs.State.{ended}
use Rattle.definition.specs.Item.{Step, tok}
use Rattle.definition.specs.declared.State.{State}
use Rattle.definition.specs.declared.Extra.TheVariants.{NoExtra}
use Rattle.reader.specs.Described.{Reads}
use Rattle.reader.specs.declared.Read.{Read}

-- the token at the text's end
abbrev pub eof : Bytes → State → Step
eof s st = tok (kind "EOF") [] st.offset (cur_pos s st) (cur_pos s st) NoExtra (ended st)

-- r is what the step t gives, whatever the class file is
abbrev pub ReadsEach : Bytes → Bytes → Step → Read → Type 0
ReadsEach s name t r = (f : Bytes) → Reads s name f t r

-- what every item asks for: the class file is accepted, and the name is short enough
pub record Lets (name f : Bytes) : Type 0 where
  pub accepted : class_check f ≡ 0
  pub named : length name ≤ 4096
