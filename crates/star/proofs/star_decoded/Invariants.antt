-- The invariant: the run from j ends where the run from i does. The measure is what is left of the text.
use Prim.Native.Nat.{◌-◌}
use lib.ListN.{length}
use Rattle.star.proofs.CodeLaws.{SameEnd}
use Rattle.star.proofs.star_decoded.Given as goal

abbrev pub invariant-loop-k : goal.invariant-loop-k
invariant-loop-k g l = SameEnd (g.T.CharTest.char_test l.test) l.text l.i l.j

abbrev pub decreases-loop-k : goal.decreases-loop-k
decreases-loop-k g l = length l.text - l.j
