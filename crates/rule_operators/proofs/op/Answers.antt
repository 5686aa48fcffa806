-- What the cut leaves is the operator.
use Rattle.rule_operators.proofs.Cutting.{cut_away, op_rules}
use Rattle.rule_operators.proofs.op.Goals as goal

pub returns-then-left-i : goal.returns-then-left-i
returns-then-left-i c = λ name x q. cut_away c.requires name x c.no_comment-left.ensures c.if-left-i.true

pub returns : goal.returns
returns c = λ name x q. op_rules c.requires name x c.no_comment-left.ensures c.if-left-i.false q
