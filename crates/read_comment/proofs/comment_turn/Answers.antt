-- `comment_turn` is a turn of the definition's `comment`: it passes a run, which ends within the text, or is one of the other cases.
use native.Mathlib.Omega.{arith}
use Rattle.read_comment.proofs.TurnLaws.{run_within, turns_run, stops}
use Rattle.read_comment.proofs.comment_turn.Goals as goal

pub moved-requires : goal.moved-requires
moved-requires c =
    omega (arith, run_within c.requires c.run_end-j.ensures, c.requires.standing.stands.short)

pub returns-then-i-j : goal.returns-then-i-j
returns-then-i-j c =
    turns_run c.requires c.run_end-j.ensures c.args.from c.if-i-j.true c.moved.ensures

pub at_stop-requires : goal.at_stop-requires
at_stop-requires c =
    stops c.requires c.run_end-j.ensures c.if-i-j.false
