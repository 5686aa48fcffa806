-- Each return is an arm of the definition.
use Rattle.utf16_turn.proofs.SecondColumns.{comment_goes_on, comment_over}
use Rattle.utf16_turn.proofs.comment_in.Goals as goal

pub returns-then-next-eq1 : goal.returns-then-next-eq1
returns-then-next-eq1 c = comment_goes_on _ _ c.if-next-eq1.true

pub returns : goal.returns
returns c = comment_over _ _ c.if-next-eq1.false
