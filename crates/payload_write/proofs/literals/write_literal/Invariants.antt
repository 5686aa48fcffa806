-- The invariant is `Writing`: what is written begins the literal. The measure is what is left of the text.
use Prim.Native.Nat.{◌-◌}
use lib.ListN as list
use Rattle.payload_write.proofs.WriteLaws.{Writing}
use Rattle.payload_write.proofs.literals.write_literal.Given as goal

abbrev pub invariant-loop-at : goal.invariant-loop-at
invariant-loop-at l = Writing l.text l.classes l.from l.length l.initial.out l.i l.at l.out

abbrev pub decreases-loop-at : goal.decreases-loop-at
decreases-loop-at l = list.length l.text - l.i
