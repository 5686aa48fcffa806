-- `match_char_lit` is the definition's `match_char_lit`, test by test. Each byte that is tested is the text's, so the sums fit.
use mathlib.Core.Path.{sym, ◌∙◌}
use Rattle.definition.specs.Matchers.{match_char_lit}
use Rattle.match_lit.proofs.ByteLaws.{has_inside, then_only}
use native.Mathlib.Omega.{arith}
use Rattle.matchers.proofs.quoted.match_char_lit.Goals as goal

pub returns-then-not-byte_is : goal.returns-then-not-byte_is
unfolding match_char_lit
returns-then-not-byte_is c = rw (sym c.byte_is.ensures ∙ c.if-not-byte_is.true)

pub overflow_add-i : goal.overflow_add-i
overflow_add-i c = omega (arith, has_inside _ _ _ (sym c.byte_is.ensures ∙ c.if-not-byte_is.false))

pub returns-in_err-j : goal.returns-in_err-j
unfolding match_char_lit
returns-in_err-j c =
    rw (sym c.byte_is.ensures ∙ c.if-not-byte_is.false, sym c.match_char.ensures ∙ c.in_err-j.was) c.from_residual.ensures

pub returns-then-not-byte_is-2 : goal.returns-then-not-byte_is-2
unfolding match_char_lit
returns-then-not-byte_is-2 c =
    rw (
      sym c.byte_is.ensures ∙ c.if-not-byte_is.false,
      sym c.match_char.ensures ∙ c.in_ok-j.was,
      sym c.byte_is-2.ensures ∙ c.if-not-byte_is-2.true,
    )

pub overflow_add-result : goal.overflow_add-result
overflow_add-result c =
    omega (arith, has_inside _ _ _ (sym c.byte_is-2.ensures ∙ c.if-not-byte_is-2.false))

pub returns-then-not-with_b : goal.returns-then-not-with_b
unfolding match_char_lit
returns-then-not-with_b c =
    rw (
      sym c.byte_is.ensures ∙ c.if-not-byte_is.false,
      sym c.match_char.ensures ∙ c.in_ok-j.was,
      sym c.byte_is-2.ensures ∙ c.if-not-byte_is-2.false,
      c.if-not-with_b.true,
    )

pub overflow_add-j : goal.overflow_add-j
overflow_add-j c =
    omega (arith, has_inside _ _ _ (sym c.byte_is-2.ensures ∙ c.if-not-byte_is-2.false))

pub overflow_add-j-2 : goal.overflow_add-j-2
overflow_add-j-2 c =
    omega (arith, has_inside _ _ _ (sym c.byte_is-2.ensures ∙ c.if-not-byte_is-2.false))

pub returns : goal.returns
unfolding match_char_lit
returns c =
    rw (
      sym c.byte_is.ensures ∙ c.if-not-byte_is.false,
      sym c.match_char.ensures ∙ c.in_ok-j.was,
      sym c.byte_is-2.ensures ∙ c.if-not-byte_is-2.false,
      c.if-not-with_b.false,
      ← c.byte_is-3.ensures,
    ) (c.then_some.ensures ∙ then_only _ _)
