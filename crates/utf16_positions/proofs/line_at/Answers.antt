-- The test is the definition's.
use borrow.Author.Tests.{eq-eqb, ne_eqb}
use Rattle.utf16_positions.proofs.line_at.Goals as goal

pub returns-then-line-here : goal.returns-then-line-here
returns-then-line-here c = rw (eq-eqb _ _ c.if-line-here.true)

pub returns : goal.returns
returns c = rw (ne_eqb _ _ c.if-line-here.false)
