-- `keeps` is the definition's: both go by the same tests.
use borrow.Author.Rules.{rules}
use Rattle.lemmas.proofs.Cases.{all_tests}
use Rattle.trim_lines.specs.Trimming.{keeps}
use Rattle.trim_lines.proofs.keeps.Goals as goal

pub returns-then-b-eq10 : goal.returns-then-b-eq10
unfolding keeps
returns-then-b-eq10 c = search (all_tests, rules)

pub returns-else-b-eq10 : goal.returns-else-b-eq10
unfolding keeps
returns-else-b-eq10 c = search (all_tests, rules)
