-- The invariant: the reader at `here` reads what the first does. The measure is what is left of the text.
use Prim.Native.Nat.{◌-◌}
use lib.ListN.{length}
use Rattle.lookahead.specs.White.{AfterWhite}
use Rattle.lookahead.proofs.white_space.after_white.Given as goal

abbrev pub invariant-loop-next : goal.invariant-loop-next
invariant-loop-next l = AfterWhite l.text l.classes l.initial.here l.here

abbrev pub decreases-loop-next : goal.decreases-loop-next
decreases-loop-next l = length l.text - l.here.st.offset
