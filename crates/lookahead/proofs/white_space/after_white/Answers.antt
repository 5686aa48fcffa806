use Prim.Native.Nat.{◌-◌}
use Rattle.lookahead.proofs.TurnLaws.{after_white_starts, after_white_on}
use Rattle.lookahead.proofs.white_space.after_white.Goals as goal

pub loop-next-init : goal.loop-next-init
loop-next-init c = after_white_starts c.requires

pub past_white-requires : goal.past_white-requires
past_white-requires c = c.loop-next.invariant.ready

pub returns : goal.returns
returns c = c.loop-next.invariant

pub loop-next-smaller : goal.loop-next-smaller
loop-next-smaller c =
    (after_white_on c.loop-next.invariant (rw c.in-Some.is at c.past_white.ensures)).1

pub loop-next-preserved : goal.loop-next-preserved
loop-next-preserved c =
    (after_white_on c.loop-next.invariant (rw c.in-Some.is at c.past_white.ensures)).0
