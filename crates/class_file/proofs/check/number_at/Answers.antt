-- `number_at` meets its contract: the library's number of four bytes is the definition's.
use mathlib.Core.Path.{◌∙◌}
use native.Mathlib.Nat.{add-zero}
use lib.Seq.{get_or-drop}
use Rattle.definition.specs.ClassFile.{little_endian}
use Rattle.class_file.proofs.check.number_at.Goals as goal

pub returns : goal.returns
unfolding little_endian
returns c = c.from_le_bytes.ensures ∙ simp (little_endian, get_or-drop, add-zero)
