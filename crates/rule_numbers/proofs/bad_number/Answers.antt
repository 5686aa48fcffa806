-- The payload is the whole lexeme.
use Rattle.rule_numbers.proofs.Cleaning.{bad_rules}
use Rattle.rule_numbers.proofs.bad_number.Goals as goal

pub returns : goal.returns
returns c = λ s name h. bad_rules h name
