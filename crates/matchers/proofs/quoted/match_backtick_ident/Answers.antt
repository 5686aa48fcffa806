use mathlib.Core.Path.{refl, sym, ◌∙◌}
use Rattle.match_lit.proofs.ByteLaws.{twice_inside}
use Rattle.matchers.proofs.QuoteLaws.{ident_no, ident_empty, ident_ends, parts_first, parts_next, part_past}
use native.Mathlib.Omega.{arith}
use Rattle.matchers.proofs.quoted.match_backtick_ident.Goals as goal

pub returns-then-not-byte_pair : goal.returns-then-not-byte_pair
returns-then-not-byte_pair c = sym (ident_no _ _ (sym c.byte_pair.ensures ∙ c.if-not-byte_pair.true))

pub overflow_add-i : goal.overflow_add-i
overflow_add-i c = omega (arith, twice_inside _ _ _ (sym c.byte_pair.ensures ∙ c.if-not-byte_pair.false))

pub returns-in_err-end : goal.returns-in_err-end
returns-in_err-end c =
    c.from_residual.ensures
    ∙ sym (ident_empty _ _ _ 0 (sym c.byte_pair.ensures ∙ c.if-not-byte_pair.false) refl (sym c.backtick_part.ensures ∙ c.in_err-end.was) refl)

pub loop-next-init : goal.loop-next-init
loop-next-init c = let part = sym c.backtick_part.ensures ∙ c.in_ok-end.was in ((part_past _ _ part).1, parts_first _ _ part)

pub loop-next-smaller : goal.loop-next-smaller
loop-next-smaller c = omega (arith, part_past _ _ (sym c.backtick_part-in-loop-next.ensures ∙ c.in-Some.is))

pub loop-next-preserved : goal.loop-next-preserved
loop-next-preserved c =
    let part = sym c.backtick_part-in-loop-next.ensures ∙ c.in-Some.is in ((part_past _ _ part).1, parts_next _ _ _ c.loop-next.invariant.1 part)

pub returns : goal.returns
returns c =
    ident_ends _ _ (sym c.byte_pair.ensures ∙ c.if-not-byte_pair.false) _ c.loop-next.invariant.1 (sym c.backtick_part-in-loop-next.ensures ∙ c.in_default.is)
    c.then_some.ensures c.byte_pair-2.ensures
