-- The invariant is `Counting`: what is counted, and that the count of what is left makes it whole.
use lib.ListN.{length}
use Rattle.definition.specs.Position.{one_each}
use Rattle.position.proofs.Counting.{Counting}
use Rattle.position.proofs.count_part.Given as goal

abbrev pub invariant-loop-b : goal.invariant-loop-b
invariant-loop-b l = Counting one_each l.part 0 (length l.part) l.n l.b-index
