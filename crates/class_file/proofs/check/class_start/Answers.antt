-- `class_start` meets its contract: in a file that is laid out the offset in the header is the class's place.
use mathlib.Core.Path.{◌∙◌}
use native.Mathlib.Omega.{arith}
use Rattle.definition.specs.ClassFile.{class_offset}
use Rattle.class_file.proofs.Accepted.{laid, header_within}
use Rattle.class_file.proofs.check.class_start.Goals as goal

pub number_at-requires : goal.number_at-requires
number_at-requires c = omega (arith, header_within _ (laid _ c.requires.0))

pub returns : goal.returns
unfolding class_offset
returns c = c.number_at.ensures ∙ (laid _ c.requires.0).offset _ c.requires.1
