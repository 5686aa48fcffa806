-- `match_escape` is the definition's `match_escape`: after the backslash the next byte decides, an equation for each outcome. The bytes
-- that it tests are the text's, so the sums fit.
use mathlib.Core.Path.{sym, ◌∙◌}
use Rattle.definition.specs.Matchers.{match_escape}
use Rattle.match_lit.proofs.ByteLaws.{has_inside, then_only}
use Rattle.matchers.proofs.QuoteLaws.{escape_at, escape_past, rest_letter, rest_none, rest_x, rest_neither, rest_u}
use native.Mathlib.Omega.{arith}
use Rattle.matchers.proofs.quoted.match_escape.Goals as goal

pub returns-then-not-byte_is : goal.returns-then-not-byte_is
unfolding match_escape
returns-then-not-byte_is c = rw (sym c.byte_is.ensures ∙ c.if-not-byte_is.true)

pub overflow_add-i : goal.overflow_add-i
overflow_add-i c = omega (arith, has_inside _ _ _ (sym c.byte_is.ensures ∙ c.if-not-byte_is.false))

pub returns-in_err-c : goal.returns-in_err-c
returns-in_err-c c =
    c.from_residual.ensures ∙ sym (escape_past _ _ (sym c.byte_is.ensures ∙ c.if-not-byte_is.false) (sym c.byte.ensures ∙ c.in_err-c.was))

pub overflow_add-result : goal.overflow_add-result
overflow_add-result c =
    omega (arith, has_inside _ _ _ (sym c.byte_is.ensures ∙ c.if-not-byte_is.false))

pub returns-then-is_escape_letter : goal.returns-then-is_escape_letter
returns-then-is_escape_letter c =
    let slash = sym c.byte_is.ensures ∙ c.if-not-byte_is.false in
    sym (escape_at _ _ slash (sym c.byte.ensures ∙ c.in_ok-c.was) ∙ rest_letter _ _ _ (sym c.is_escape_letter.ensures ∙ c.if-is_escape_letter.true))

pub overflow_add-i-2 : goal.overflow_add-i-2
overflow_add-i-2 c =
    omega (arith, has_inside _ _ _ (sym c.byte_is.ensures ∙ c.if-not-byte_is.false))

pub returns-then-not-hex_pair : goal.returns-then-not-hex_pair
returns-then-not-hex_pair c =
    let slash = sym c.byte_is.ensures ∙ c.if-not-byte_is.false in
    sym (escape_at _ _ slash (sym c.byte.ensures ∙ c.in_ok-c.was)
    ∙ rest_none _ _ _ (sym c.is_escape_letter.ensures ∙ c.if-is_escape_letter.false) (sym c.hex_pair.ensures ∙ c.if-not-hex_pair.true))

pub overflow_add-result-in-120 : goal.overflow_add-result-in-120
overflow_add-result-in-120 c =
    omega (arith, has_inside _ _ _ (sym c.byte_is.ensures ∙ c.if-not-byte_is.false))

pub overflow_add-i-in-117 : goal.overflow_add-i-in-117
overflow_add-i-in-117 c =
    omega (arith, has_inside _ _ _ (sym c.byte_is.ensures ∙ c.if-not-byte_is.false))

pub overflow_add-i-in-117-2 : goal.overflow_add-i-in-117-2
overflow_add-i-in-117-2 c =
    omega (arith, has_inside _ _ _ (sym c.byte_is.ensures ∙ c.if-not-byte_is.false))

pub returns-in-120 : goal.returns-in-120
returns-in-120 c =
    let slash = sym c.byte_is.ensures ∙ c.if-not-byte_is.false in
    sym (escape_at _ _ slash (sym c.byte.ensures ∙ c.in_ok-c.was)
    ∙ rest_x _ _ _ (sym c.is_escape_letter.ensures ∙ c.if-is_escape_letter.false) (sym c.hex_pair.ensures ∙ c.if-not-hex_pair.false) c.in-120.is)

pub returns-in-117 : goal.returns-in-117
returns-in-117 c =
    let slash = sym c.byte_is.ensures ∙ c.if-not-byte_is.false in
    c.then_some.ensures
    ∙ then_only _ _
    ∙ rw c.hex_pair-in-117.ensures (sym (escape_at _ _ slash (sym c.byte.ensures ∙ c.in_ok-c.was)
    ∙ rest_u _ _ _ (sym c.is_escape_letter.ensures ∙ c.if-is_escape_letter.false) (sym c.hex_pair.ensures ∙ c.if-not-hex_pair.false) c.in-117.is))

pub returns-in_default : goal.returns-in_default
returns-in_default c =
    let slash = sym c.byte_is.ensures ∙ c.if-not-byte_is.false in
    sym (escape_at _ _ slash (sym c.byte.ensures ∙ c.in_ok-c.was)
    ∙ rest_neither _ _ _ (sym c.is_escape_letter.ensures ∙ c.if-is_escape_letter.false) (sym c.hex_pair.ensures ∙ c.if-not-hex_pair.false) (omega arith) (omega arith))
