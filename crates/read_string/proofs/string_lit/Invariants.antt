-- The invariant is `Reading`: what is still to be read gives what the whole gives. The measure is what is left of the text.
use Prim.Native.Nat.{◌-◌}
use lib.ListN.{length}
use Rattle.read_string.proofs.LoopLaws.{Reading}
use Rattle.read_string.proofs.string_lit.Given as goal

abbrev pub invariant-loop-r : goal.invariant-loop-r
invariant-loop-r l = Reading l.text l.classes l.quote l.sp l.from l.count l.initial.here l.here

abbrev pub decreases-loop-r : goal.decreases-loop-r
decreases-loop-r l = length l.text - l.here.st.offset
