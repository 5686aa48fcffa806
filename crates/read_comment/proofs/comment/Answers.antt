use Rattle.read_comment.proofs.LoopLaws.{going_starts, going_on, going_less, going_ends}
use Rattle.read_comment.proofs.comment.Goals as goal

pub loop-r-init : goal.loop-r-init
loop-r-init c = going_starts _ c.requires

pub comment_turn-requires : goal.comment_turn-requires
comment_turn-requires c = c.loop-r.invariant.inside

pub returns-in-Done : goal.returns-in-Done
returns-in-Done c =
    going_ends c.loop-r.invariant c.in-Done.is c.comment_turn.ensures

pub loop-r-smaller : goal.loop-r-smaller
loop-r-smaller c =
    going_less c.loop-r.invariant c.in-Again.is c.comment_turn.ensures

pub loop-r-preserved : goal.loop-r-preserved
loop-r-preserved c =
    going_on c.loop-r.invariant c.in-Again.is c.comment_turn.ensures
