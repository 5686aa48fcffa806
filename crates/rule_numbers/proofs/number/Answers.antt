-- The payload is the cleaned part.
use Rattle.rule_numbers.proofs.Cleaning.{number_rules}
use Rattle.rule_numbers.proofs.number.Goals as goal

pub returns : goal.returns
returns c = λ name x q. number_rules c.requires name _ c.cleaned-part.ensures _ x q
