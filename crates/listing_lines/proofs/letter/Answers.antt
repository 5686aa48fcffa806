-- The test is the definition's.
use borrow.Author.Tests.{eq-eqb, ne_eqb}
use Rattle.listing_lines.proofs.letter.Goals as goal

pub returns-then-sort-eq2 : goal.returns-then-sort-eq2
returns-then-sort-eq2 c = simp (eq-eqb _ _ c.if-sort-eq2.true)

pub returns : goal.returns
returns c = simp (ne_eqb _ _ c.if-sort-eq2.false)
