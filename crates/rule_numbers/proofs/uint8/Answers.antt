-- The cleaned part says whether the number is too big.
use Rattle.definition.specs.Kinds.{kind, kind_names, number_from}
use Rattle.rule_numbers.proofs.Cleaning.{big_rules, uint8_rules}
use Rattle.rule_numbers.proofs.uint8.Goals as goal

pub returns-then-above_255 : goal.returns-then-above_255
returns-then-above_255 c = λ name. big_rules c.requires name _ c.cleaned-part.ensures _ c.above_255.ensures c.if-above_255.true

pub returns : goal.returns
unfolding kind kind_names number_from
returns c = λ name. uint8_rules c.requires name _ c.cleaned-part.ensures _ c.above_255.ensures c.if-above_255.false
