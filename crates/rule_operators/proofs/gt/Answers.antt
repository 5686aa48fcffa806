-- The token begins after the first byte, and its payload describes that byte too.
use Rattle.definition.specs.Kinds.{kind, kind_names, number_from}
use Rattle.rule_operators.proofs.Cutting.{gt_rules}
use Rattle.rule_operators.proofs.gt.Goals as goal

pub returns : goal.returns
unfolding kind kind_names number_from
returns c = λ name. gt_rules c.requires name c.no_comment-to.ensures
