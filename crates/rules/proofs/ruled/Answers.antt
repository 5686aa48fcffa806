-- Each arm gives the action of its rule.
use mathlib.Core.Path.{ap, ◌∙◌}
use Rattle.rule_table.specs.declared.table.Rule.TheVariants.{Action}
use Rattle.rules.proofs.RuleLaws.{keyword_word}
use Rattle.rules.proofs.ruled.Goals as goal

pub kw_op-requires : goal.kw_op-requires
kw_op-requires c =
    let p = c.requires in
    (p.0, keyword_word p.1 (p.2 ∙ ap Action c.in-KwOp.is))

pub returns-in-Plain : goal.returns-in-Plain
returns-in-Plain c = λ name named. rw c.in-Plain.is (c.plain.ensures _ name c.requires.0 named)

pub returns-in-KwOp : goal.returns-in-KwOp
returns-in-KwOp c = λ name named. rw c.in-KwOp.is (c.kw_op.ensures name)

pub returns-in-Ident : goal.returns-in-Ident
returns-in-Ident c = λ name named. rw c.in-Ident.is (c.ident.ensures name)

pub returns-in-Constructor : goal.returns-in-Constructor
returns-in-Constructor c = λ name named. rw c.in-Constructor.is (c.capital_name.ensures name)

pub returns-in-Number : goal.returns-in-Number
returns-in-Number c = λ name named. rw c.in-Number.is (c.number.ensures name _ c.kind_of.ensures)

pub returns-in-UInt8 : goal.returns-in-UInt8
returns-in-UInt8 c = λ name named. rw c.in-UInt8.is (c.uint8.ensures name)

pub returns-in-BadNumber : goal.returns-in-BadNumber
returns-in-BadNumber c = λ name named. rw c.in-BadNumber.is (c.bad_number.ensures _ name c.requires.0)

pub returns-in-Gt : goal.returns-in-Gt
returns-in-Gt c = λ name named. rw c.in-Gt.is (c.gt.ensures name)

pub returns-in-Op : goal.returns-in-Op
returns-in-Op c = λ name named. rw c.in-Op.is (c.op.ensures name _ c.kind_of-in-Op.ensures)

pub returns-in-UOperator : goal.returns-in-UOperator
returns-in-UOperator c = λ name named. rw c.in-UOperator.is (c.unicode_operator.ensures name)
