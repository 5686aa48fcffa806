-- The invariant is `FromRight`: what is left of the number is what is left of it up to `to`.
use Rattle.number_value.proofs.Stripping.{FromRight}
use Rattle.number_value.proofs.cleaning.strip_right.Given as goal

abbrev pub invariant-loop-to : goal.invariant-loop-to
invariant-loop-to l = FromRight l.number l.to
