-- The invariant is `Showing`: the digits from `at` on are written, and those of what is left are still to be written in front of them.
use Rattle.number_value.proofs.Digits.{Showing}
use Rattle.number_value.proofs.decimals.show_into.Given as goal

abbrev pub invariant-loop-at : goal.invariant-loop-at
invariant-loop-at l = Showing l.n l.initial.out l.left l.at l.out
