-- `comment` reads what the definition's gives. The invariant is `Going`: what is still to be read is what was to be read at first. The measure
-- is what is left of the text.
use Rattle.laws_progress.proofs.Walks.{rest}
use Rattle.read_comment.proofs.LoopLaws.{Going}
use Rattle.read_comment.proofs.comment.Given as goal

abbrev pub invariant-loop-r : goal.invariant-loop-r
invariant-loop-r l = Going l.text l.from l.initial.here l.here

abbrev pub decreases-loop-r : goal.decreases-loop-r
decreases-loop-r l = rest l.text l.here.st.offset
