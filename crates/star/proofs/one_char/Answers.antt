-- `one_char` is the definition's `one` over its test: a byte of ASCII is a character by itself, any other is decoded.
use mathlib.Core.Path.{sym, ◌∙◌}
use native.Mathlib.Omega.{arith}
use Rattle.utf8.proofs.Character.{decoded_within}
use Rattle.star.proofs.RunLaws.{one_end, one_other}
use Rattle.star.proofs.CodeLaws.{ascii_one, decoded_one}
use Rattle.star.proofs.one_char.Goals as goal

pub returns-in_err-b : goal.returns-in_err-b
returns-in_err-b g c = c.from_residual.ensures ∙ sym (one_end _ _ _ c.in_err-b.ensures.lookup.3)

pub returns-then-b-lt128 : goal.returns-then-b-lt128
returns-then-b-lt128 g c =
    let here = c.in_ok-b.ensures.lookup in
    ascii_one _ _ _ c.then_some.ensures (g.met.T.CharTest.agrees c.args.test) here.3.0 (here.3.1 0) c.if-b-lt128.true c.passes.ensures

pub returns-in_default : goal.returns-in_default
returns-in_default g c = sym (one_other _ _ _ c.sequence_at.ensures c.in_default.not-Char)

pub overflow_add-i-2 : goal.overflow_add-i-2
overflow_add-i-2 g c = omega (arith, decoded_within _ _ c.sequence_at.ensures c.in-Char.is)

pub returns : goal.returns
returns g c = decoded_one _ _ _ c.then_some-2.ensures c.sequence_at.ensures c.in-Char.is c.passes_char.ensures
