-- A blank and a number take eleven bytes at most.
use Rattle.std.proofs.Common.{◌≡◌, ◌*◌, ◌≤◌, length}
use Rattle.cases.proofs.print.numbers_into.Given as goal

abbrev pub invariant-loop-n : goal.invariant-loop-n
invariant-loop-n l = (l.end ≤ 11 * l.n-index) × (length l.out ≡ length l.initial.out)
