-- Each character is read and tested: one that passes is passed over, at another the run ends.
use mathlib.Core.Path.{refl, sym, ◌∙◌}
use native.Mathlib.Omega.{arith}
use Rattle.utf8.proofs.Character.{decoded_within}
use Rattle.star.proofs.RunLaws.{one_yes, one_no, one_other}
use Rattle.star.proofs.CodeLaws.{decoded_turn, beyond_stop, beyond_end}
use Rattle.star.proofs.stops.inside_beyond.Goals as goal

pub returns-in_default : goal.returns-in_default
returns-in_default c =
    let v = c.loop-inside.invariant in
    beyond_stop _ _ _ _ refl (one_other _ _ _ c.sequence_in_place.ensures c.in_default.not-Char) v.same v.from v.within

pub returns-then-not-passes_char : goal.returns-then-not-passes_char
returns-then-not-passes_char c =
    let v = c.loop-inside.invariant in
    let read = sym c.sequence_in_place.ensures ∙ c.in-Char.is in
    beyond_stop _ _ _ _ refl (one_no _ _ _ read (sym c.passes_char.ensures ∙ c.if-not-passes_char.true)) v.same v.from v.within

pub overflow_add-at : goal.overflow_add-at
overflow_add-at c = omega (arith, decoded_within _ _ c.sequence_in_place.ensures c.in-Char.is)

pub loop-inside-smaller : goal.loop-inside-smaller
loop-inside-smaller c = omega (arith, decoded_within _ _ c.sequence_in_place.ensures c.in-Char.is)

pub loop-inside-preserved : goal.loop-inside-preserved
loop-inside-preserved c =
    let v = c.loop-inside.invariant in
    let read = sym c.sequence_in_place.ensures ∙ c.in-Char.is in
    let past = decoded_within _ _ c.sequence_in_place.ensures c.in-Char.is in
    record {
      same = decoded_turn _ _ _ _ refl (one_yes _ _ _ read (sym c.passes_char.ensures ∙ c.if-not-passes_char.false)) v.same;
      from = omega (arith, v.from, past);
      within = λ _. past.1;
    }

pub returns : goal.returns
returns c =
    let v = c.loop-inside.invariant in
    beyond_end _ _ _ _ c.beyond_ascii_at.ensures c.loop-inside-test.false v.same v.from v.within
