-- The invariant is `Reaching`: what is read from there is what the first reads, also after white space. The measure is what is left
-- of the text.
use Prim.Native.Nat.{◌-◌}
use lib.ListN.{length}
use Rattle.lookahead.proofs.LookaheadLaws.{Reaching}
use Rattle.lookahead.proofs.look.Given as goal

abbrev pub invariant-loop-from : goal.invariant-loop-from
invariant-loop-from l = Reaching l.text l.classes l.initial.from l.from

abbrev pub decreases-loop-from : goal.decreases-loop-from
decreases-loop-from l = length l.text - l.from.st.offset
