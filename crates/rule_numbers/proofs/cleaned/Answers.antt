-- A part of the lexeme is a part of the text.
use Rattle.rule_numbers.proofs.Cleaning.{cleaned_at}
use Rattle.rule_numbers.proofs.cleaned.Goals as goal

pub returns : goal.returns
returns c = let p = c.requires in cleaned_at p.0 p.1 c.clean_number-part.ensures
