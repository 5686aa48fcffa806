use mathlib.Core.Path.{sym, ◌∙◌}
use Rattle.match_lit.proofs.ByteLaws.{has_inside, lit_on, lit_stop, lit_done}
use native.Mathlib.Omega.{arith}
use Rattle.match_lit.proofs.match_lit.Goals as goal

pub returns-then-not-byte_is : goal.returns-then-not-byte_is
returns-then-not-byte_is c =
    sym (lit_stop _ _ _ _ c.loop-b-test.true (sym c.byte_is.ensures ∙ c.if-not-byte_is.true)) ∙ c.loop-b.invariant

pub overflow_add-at : goal.overflow_add-at
overflow_add-at c = omega (arith, has_inside _ _ _ (sym c.byte_is.ensures ∙ c.if-not-byte_is.false))

pub loop-b-preserved : goal.loop-b-preserved
loop-b-preserved c =
    sym (lit_on _ _ _ _ c.loop-b-test.true (sym c.byte_is.ensures ∙ c.if-not-byte_is.false)) ∙ c.loop-b.invariant

pub returns : goal.returns
returns c = sym (lit_done _ _ _ _ c.loop-b-test.false) ∙ c.loop-b.invariant
