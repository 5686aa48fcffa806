-- `op_token` is what trying every operator token gives: only those that begin with the text's byte can be there.
use mathlib.Core.Path.{sym, ◌∙◌}
use Rattle.definition.specs.Utf8.{encode, encode_all}
use Rattle.definition.specs.Tables.{cps, op_tokens}
use Rattle.table_op_tokens.proofs.OperatorSearches.{token_past, token_is, token_none}
use native.Mathlib.Omega.{arith}
use Rattle.table_op_tokens.proofs.op_token.Goals as goal

pub returns-then-text-i : goal.returns-then-text-i
unfolding op_tokens cps encode_all encode
returns-then-text-i c = c.nothing.ensures ∙ sym (token_past _ _ c.if-text-i.true)

pub returns-in-33 : goal.returns-in-33
unfolding op_tokens cps encode_all encode
returns-in-33 c = c.only.ensures ∙ token_is _ _ c.if-text-i.false c.in-33.is

pub returns-in-35 : goal.returns-in-35
unfolding op_tokens cps encode_all encode
returns-in-35 c = c.only-in-35.ensures ∙ token_is _ _ c.if-text-i.false c.in-35.is

pub returns-in-36 : goal.returns-in-36
unfolding op_tokens cps encode_all encode
returns-in-36 c = c.at_dollar.ensures ∙ token_is _ _ c.if-text-i.false c.in-36.is

pub returns-in-37 : goal.returns-in-37
unfolding op_tokens cps encode_all encode
returns-in-37 c = c.only-in-37.ensures ∙ token_is _ _ c.if-text-i.false c.in-37.is

pub returns-in-38 : goal.returns-in-38
unfolding op_tokens cps encode_all encode
returns-in-38 c = c.only-in-38.ensures ∙ token_is _ _ c.if-text-i.false c.in-38.is

pub returns-in-40 : goal.returns-in-40
unfolding op_tokens cps encode_all encode
returns-in-40 c = c.at_paren.ensures ∙ token_is _ _ c.if-text-i.false c.in-40.is

pub returns-in-41 : goal.returns-in-41
unfolding op_tokens cps encode_all encode
returns-in-41 c = c.only-in-41.ensures ∙ token_is _ _ c.if-text-i.false c.in-41.is

pub returns-in-44 : goal.returns-in-44
unfolding op_tokens cps encode_all encode
returns-in-44 c = c.only-in-44.ensures ∙ token_is _ _ c.if-text-i.false c.in-44.is

pub returns-in-45 : goal.returns-in-45
unfolding op_tokens cps encode_all encode
returns-in-45 c = c.at_minus.ensures ∙ token_is _ _ c.if-text-i.false c.in-45.is

pub returns-in-46 : goal.returns-in-46
unfolding op_tokens cps encode_all encode
returns-in-46 c = c.at_point.ensures ∙ token_is _ _ c.if-text-i.false c.in-46.is

pub returns-in-47 : goal.returns-in-47
unfolding op_tokens cps encode_all encode
returns-in-47 c = c.only-in-47.ensures ∙ token_is _ _ c.if-text-i.false c.in-47.is

pub returns-in-58 : goal.returns-in-58
unfolding op_tokens cps encode_all encode
returns-in-58 c = c.at_colon.ensures ∙ token_is _ _ c.if-text-i.false c.in-58.is

pub returns-in-59 : goal.returns-in-59
unfolding op_tokens cps encode_all encode
returns-in-59 c = c.only-in-59.ensures ∙ token_is _ _ c.if-text-i.false c.in-59.is

pub returns-in-60 : goal.returns-in-60
unfolding op_tokens cps encode_all encode
returns-in-60 c = c.at_less.ensures ∙ token_is _ _ c.if-text-i.false c.in-60.is

pub returns-in-61 : goal.returns-in-61
unfolding op_tokens cps encode_all encode
returns-in-61 c = c.at_equals.ensures ∙ token_is _ _ c.if-text-i.false c.in-61.is

pub returns-in-63 : goal.returns-in-63
unfolding op_tokens cps encode_all encode
returns-in-63 c = c.at_question.ensures ∙ token_is _ _ c.if-text-i.false c.in-63.is

pub returns-in-91 : goal.returns-in-91
unfolding op_tokens cps encode_all encode
returns-in-91 c = c.at_bracket.ensures ∙ token_is _ _ c.if-text-i.false c.in-91.is

pub returns-in-92 : goal.returns-in-92
unfolding op_tokens cps encode_all encode
returns-in-92 c = c.only-in-92.ensures ∙ token_is _ _ c.if-text-i.false c.in-92.is

pub returns-in-93 : goal.returns-in-93
unfolding op_tokens cps encode_all encode
returns-in-93 c = c.only-in-93.ensures ∙ token_is _ _ c.if-text-i.false c.in-93.is

pub returns-in-114 : goal.returns-in-114
unfolding op_tokens cps encode_all encode
returns-in-114 c = c.only-in-114.ensures ∙ token_is _ _ c.if-text-i.false c.in-114.is

pub returns-in-117 : goal.returns-in-117
unfolding op_tokens cps encode_all encode
returns-in-117 c = c.only-in-117.ensures ∙ token_is _ _ c.if-text-i.false c.in-117.is

pub returns-in-123 : goal.returns-in-123
unfolding op_tokens cps encode_all encode
returns-in-123 c = c.at_brace.ensures ∙ token_is _ _ c.if-text-i.false c.in-123.is

pub returns-in-124 : goal.returns-in-124
unfolding op_tokens cps encode_all encode
returns-in-124 c = c.at_bar.ensures ∙ token_is _ _ c.if-text-i.false c.in-124.is

pub returns-in-125 : goal.returns-in-125
unfolding op_tokens cps encode_all encode
returns-in-125 c = c.only-in-125.ensures ∙ token_is _ _ c.if-text-i.false c.in-125.is

pub returns-in-126 : goal.returns-in-126
unfolding op_tokens cps encode_all encode
returns-in-126 c = c.at_tilde.ensures ∙ token_is _ _ c.if-text-i.false c.in-126.is

pub returns-in_default : goal.returns-in_default
unfolding op_tokens cps encode_all encode
returns-in_default c = c.nothing-in_default.ensures ∙ token_none _ _ c.if-text-i.false
    (omega (arith, c.type_inv.text c.args.i)) c.in_default.in_default-own.rest
