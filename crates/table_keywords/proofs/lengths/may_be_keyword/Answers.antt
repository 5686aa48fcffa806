-- The tests are the definition's, one after the other; a length of at most 31 is below the width of what is shifted.
use borrow.Author.Rules.{rules}
use Rattle.lemmas.proofs.Cases.{all_tests}
use Rattle.table_keywords.specs.Lengths.{may_be_keyword}
use Rattle.table_keywords.proofs.LengthLaws.{empty_fails, by_length}
use Rattle.table_keywords.proofs.lengths.may_be_keyword.Goals as goal

pub returns-then-id-eq0 : goal.returns-then-id-eq0
returns-then-id-eq0 c = empty_fails _ c.if-id-eq0.true

pub returns-then-id-gt31 : goal.returns-then-id-gt31
unfolding may_be_keyword
returns-then-id-gt31 c = search (all_tests, rules)

pub returns-then-id-ge128 : goal.returns-then-id-ge128
unfolding may_be_keyword
returns-then-id-ge128 c = search (all_tests, rules)

pub returns : goal.returns
returns c = by_length _ c.if-id-gt31.false c.if-id-ge128.false c.lengths.ensures
