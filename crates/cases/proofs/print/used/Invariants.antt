-- The end only goes down.
use Rattle.std.proofs.Common.{◌≤◌, length}
use Rattle.cases.proofs.print.used.Given as goal

abbrev pub invariant-loop-end : goal.invariant-loop-end
invariant-loop-end g l = l.end ≤ length l.elements

abbrev pub decreases-loop-end : goal.decreases-loop-end
decreases-loop-end g l = l.end
