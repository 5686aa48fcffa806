-- What the cut leaves after the word decides the kind.
use Rattle.rule_operators.proofs.Cutting.{kw_op_short, kw_before_rules, kw_plain_rules}
use native.Mathlib.Omega.{arith}
use Rattle.rule_operators.proofs.kw_op.Goals as goal

pub overflow_add-from : goal.overflow_add-from
overflow_add-from c = omega (arith, kw_op_short _ _ c.kw_op_length.ensures)

pub returns-then-from-to : goal.returns-then-from-to
returns-then-from-to c = λ name. kw_before_rules c.requires.0 name _ c.no_comment-to.ensures c.kw_op_length.ensures c.if-from-to.true c.kw_op_kind.ensures

pub returns : goal.returns
returns c = λ name. kw_plain_rules c.requires.0 name _ c.no_comment-to.ensures c.kw_op_length.ensures c.if-from-to.false c.kw_op_plain_kind.ensures
