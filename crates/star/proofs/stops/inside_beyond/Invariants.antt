-- The invariant: the run from `at` ends where the run from i does, and `at` is i, or within the text and past it. The measure is what is
-- left of the text.
use Prim.Native.Nat.{◌-◌, ◌≤◌, ◌<◌}
use lib.ListN.{length}
use Rattle.star.specs.Stops.{goes_on}
use Rattle.star.proofs.CodeLaws.{SameEnd}
use Rattle.star.proofs.stops.inside_beyond.Given as goal

abbrev pub invariant-loop-inside : goal.invariant-loop-inside
invariant-loop-inside l = record {
  same : SameEnd (goes_on l.inside.first l.inside.second) l.text l.i l.at;
  from : l.i ≤ l.at;
  within : l.i < l.at → l.at ≤ length l.text;
}

abbrev pub decreases-loop-inside : goal.decreases-loop-inside
decreases-loop-inside l = length l.text - l.at
