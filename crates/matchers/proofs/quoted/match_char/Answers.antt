-- `match_char` is the definition's `match_char`: both see nothing but what stands at the offset.
use mathlib.Core.Path.{sym, ◌∙◌}
use Rattle.utf8.proofs.Character.{decoded_within}
use Rattle.matchers.proofs.QuoteLaws.{char_other, char_slash, char_plain}
use native.Mathlib.Omega.{arith}
use Rattle.matchers.proofs.quoted.match_char.Goals as goal

pub returns-in_default : goal.returns-in_default
returns-in_default c = sym (char_other _ _ c.sequence_at.ensures c.in_default.not-Char)

pub returns-then-c : goal.returns-then-c
returns-then-c c =
    c.match_escape.ensures ∙ sym (char_slash _ _ (sym c.sequence_at.ensures ∙ c.in-Char.is) c.if-c.true)

pub overflow_add-result : goal.overflow_add-result
overflow_add-result c =
    omega (arith, decoded_within _ _ c.sequence_at.ensures c.in-Char.is)

pub returns : goal.returns
returns c =
    sym (char_plain _ _ (sym c.sequence_at.ensures ∙ c.in-Char.is) c.if-c.false)
