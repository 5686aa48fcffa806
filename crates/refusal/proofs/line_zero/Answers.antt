-- Each return is an arm of the definition.
use Rattle.refusal.proofs.Utf16Ladder.{state_line_zero, comment_line_zero, no_line_zero}
use Rattle.refusal.proofs.line_zero.Goals as goal

pub returns-then-first-eq0 : goal.returns-then-first-eq0
returns-then-first-eq0 c = state_line_zero _ c.if-first-eq0.true

pub returns-then-first-eq-IN_COMMENT : goal.returns-then-first-eq-IN_COMMENT
returns-then-first-eq-IN_COMMENT c = comment_line_zero _ c.if-first-eq0.false c.if-first-eq-IN_COMMENT.true

pub returns : goal.returns
returns c = no_line_zero _ c.if-first-eq0.false c.if-first-eq-IN_COMMENT.false
