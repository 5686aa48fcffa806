-- The invariant is `Counted`: what is counted, with the digits of what is left, makes the digits of all. The measure is what is left.
use Rattle.number_value.proofs.Digits.{Counted}
use Rattle.number_value.proofs.decimals.show_length.Given as goal

abbrev pub invariant-loop-left : goal.invariant-loop-left
invariant-loop-left l = Counted l.n l.left l.count

abbrev pub decreases-loop-left : goal.decreases-loop-left
decreases-loop-left l = l.left
