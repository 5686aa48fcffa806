-- `class_ascends` meets its contract. The invariant: the test of the ranges that are left, none below `least`, answers what
-- the test of all of them answers.
use mathlib.Core.Path.{◌≡◌}
use lib.ListN.{drop}
use Rattle.std.specs.Prelude.{map}
use Rattle.definition.specs.ClassFile.{ranges_of, ascending}
use Rattle.class_file.specs.Search.{range_at}
use Rattle.class_file.proofs.check.class_ascends.Given as goal

abbrev pub invariant-loop-range : goal.invariant-loop-range
invariant-loop-range l = ascending 0 (ranges_of l.file l.k) ≡ ascending l.least (drop l.range-index (map range_at l.range-items))
