-- By the levels that are open, as the definition has it.
use Rattle.definition.proofs.Closing.{closes_level, closes_last}
use Rattle.definition.proofs.State.close_comment.Goals as goal

pub returns-then-self-gt1 : goal.returns-then-self-gt1
returns-then-self-gt1 c = closes_level _ c.close_level.ensures c.if-self-gt1.true

pub returns : goal.returns
returns c = closes_last _ c.close_last.ensures c.if-self-gt1.false
