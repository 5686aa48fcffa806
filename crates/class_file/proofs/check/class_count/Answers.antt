-- `class_count` meets its contract: the header of a file that is laid out lies within it.
use native.Mathlib.Omega.{arith}
use Rattle.definition.specs.ClassFile.{class_count}
use Rattle.class_file.proofs.Accepted.{laid, header_within}
use Rattle.class_file.proofs.check.class_count.Goals as goal

pub number_at-requires : goal.number_at-requires
number_at-requires c = omega (arith, header_within _ (laid _ c.requires.0))

pub returns : goal.returns
unfolding class_count
returns c = c.number_at.ensures
