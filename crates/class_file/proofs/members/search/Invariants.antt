-- `search` meets its contract. The invariant, `Narrowed`: a range that holds c is one from `low` up to `high`. The measure
-- is how many those are.
use Prim.Native.Nat.{◌-◌}
use Rattle.std.specs.Prelude.{map}
use Rattle.class_file.proofs.SearchLaws.{Narrowed}
use Rattle.class_file.proofs.members.search.Given as goal

abbrev pub invariant-loop-low : goal.invariant-loop-low
invariant-loop-low g l = Narrowed (map g.R.Stored.range l.ranges) l.c l.low l.high

abbrev pub decreases-loop-low : goal.decreases-loop-low
decreases-loop-low g l = l.high - l.low
