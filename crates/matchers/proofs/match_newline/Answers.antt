-- `match_newline` is the definition's `match_newline`: CR LF, or one character.
use mathlib.Core.Path.{sym, ◌∙◌}
use Rattle.utf8.proofs.Character.{decoded_within}
use Rattle.match_lit.proofs.ByteLaws.{has_inside}
use Rattle.star.proofs.CodeLaws.{decoded_one}
use Rattle.matchers.proofs.NameLaws.{newline_other, newline_two, not_return, no_feed}
use native.Mathlib.Omega.{arith}
use Rattle.matchers.proofs.match_newline.Goals as goal
use Rattle.matchers.proofs.match_newline.Goals.{else-c-via-then-c+else-byte_is, else-c-via-else-c}

pub returns-in_default : goal.returns-in_default
returns-in_default c = sym (newline_other _ _ c.sequence_at.ensures c.in_default.not-Char)

pub overflow_add-i : goal.overflow_add-i
overflow_add-i c = omega (arith, decoded_within _ _ c.sequence_at.ensures c.in-Char.is)

pub overflow_add-result : goal.overflow_add-result
overflow_add-result c = omega (arith, has_inside _ _ _ (sym c.byte_is.ensures ∙ c.if-byte_is.true))

pub returns-then-byte_is : goal.returns-then-byte_is
returns-then-byte_is c =
    sym (newline_two _ _ (sym c.sequence_at.ensures ∙ c.in-Char.is) c.if-c.true (sym c.byte_is.ensures ∙ c.if-byte_is.true))

pub overflow_add-i-2 : goal.overflow_add-i-2
overflow_add-i-2 c = omega (arith, decoded_within _ _ c.sequence_at.ensures c.in-Char.is)

pub returns : goal.returns
returns c =
    decoded_one _ _ _ c.then_some.ensures c.sequence_at.ensures c.in-Char.is c.is_newline_char.ensures
    ∙ sym (elim c.else-c.branch [
      | else-c-via-then-c+else-byte_is w ↦ no_feed _ _ (sym w.byte_is.ensures ∙ w.if-byte_is.false)
      | else-c-via-else-c w ↦ not_return _ _ (sym c.sequence_at.ensures ∙ c.in-Char.is) w.if-c.false
    ])
