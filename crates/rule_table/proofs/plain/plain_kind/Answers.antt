-- A table's kind is its entry's, any other the place's.
use mathlib.Core.Path.{ap, ◌∙◌}
use Rattle.definition.specs.Kinds.{kind}
use Rattle.definition.specs.Tables.{Entry}
use Rattle.rule_table.proofs.PlainLaws.{early_word, token_word, mixfix_word, token_entry, mixfix_entry, kind_at_key, kind_without}
use native.Mathlib.Omega.{arith}
use Rattle.rule_table.proofs.plain.plain_kind.Goals as goal

pub early_kind-requires : goal.early_kind-requires
early_kind-requires c = early_word c.requires c.in-1.is

pub overflow_add-choice : goal.overflow_add-choice
overflow_add-choice c = omega (arith, token_word c.requires c.in-36.is)

pub kind_at-requires : goal.kind_at-requires
kind_at-requires c = omega (arith, token_word c.requires c.in-36.is)

pub overflow_add-choice-in-50 : goal.overflow_add-choice-in-50
overflow_add-choice-in-50 c = omega (arith, mixfix_word c.requires c.in-50.is)

pub kind_at-requires-in-50 : goal.kind_at-requires-in-50
kind_at-requires-in-50 c = omega (arith, mixfix_word c.requires c.in-50.is)

pub returns-in-1 : goal.returns-in-1
returns-in-1 c = kind_at_key _ _ 1 c.in-1.is c.early_kind.ensures

pub returns-in-36 : goal.returns-in-36
returns-in-36 c =
    let q = c.in-36.is in
    kind_at_key _ _ 36 q (c.kind_at.ensures ∙ ap (λ (e : Entry). kind e.kind) (token_entry _ (token_word c.requires q)))

pub returns-in-50 : goal.returns-in-50
returns-in-50 c =
    let q = c.in-50.is in
    kind_at_key _ _ 50 q (c.kind_at-in-50.ensures ∙ ap (λ (e : Entry). kind e.kind) (mixfix_entry _ (mixfix_word c.requires q)))

pub returns-in_default : goal.returns-in_default
returns-in_default c = kind_without _ _ c.in_default.in_default-own.rest c.kind_of.ensures
