-- What is asked where a choice is acted on. s is the text, name the file's name, f the class file, at the cursor where the reader
-- stands, c the choice.
use Rattle.std.specs.Prelude.{◌≤◌, ◌<◌, ◌≡◌, length}
use Rattle.definition.specs.Basics.{Bytes}
use Rattle.definition.specs.ClassFile.{class_check}
use Rattle.definition.specs.Select.{select}
use Rattle.definition.specs.declared.Choice.{Choice}
use Rattle.reader.specs.Standing.{Standing}
use Rattle.reader.specs.declared.Cursor.{Cursor}

pub record Acts (s name f : Bytes) (at : Cursor) (c : Choice) : Type 0 where
  pub standing : Standing s at.st at.known
  pub between : at.st.mode ≡ 0
  pub before : at.st.offset < length s
  pub chosen : c ≡ select s f at.st.offset
  pub accepted : class_check f ≡ 0
  pub named : length name ≤ 4096
