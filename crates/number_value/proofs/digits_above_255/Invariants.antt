-- The invariant is `Reading`: the value so far is 255 at most, and with the digits left it makes the whole.
use Rattle.number_value.proofs.Values.{Reading}
use Rattle.number_value.proofs.digits_above_255.Given as goal

abbrev pub invariant-loop-digit : goal.invariant-loop-digit
invariant-loop-digit l = Reading l.digits l.base l.n l.digit-index
