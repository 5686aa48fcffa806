-- The invariant is `Hexed`: the digits read and those left make the whole value.
use Rattle.escapes.proofs.Hex.{Hexed}
use Rattle.escapes.proofs.hex_value.Given as goal

abbrev pub invariant-loop-digit : goal.invariant-loop-digit
invariant-loop-digit l = Hexed l.digit-items l.value l.digit-index
