-- `match_constructor` is the definition's `match_constructor`: a character that may begin a constructor, and the run after it.
use mathlib.Core.Path.{sym, ◌∙◌}
use Rattle.definition.specs.Matchers.{match_constructor}
use Rattle.utf8.proofs.Character.{decoded_within}
use Rattle.matchers.proofs.NameLaws.{head_yes, head_no, head_other}
use native.Mathlib.Omega.{arith}
use Rattle.matchers.proofs.match_constructor.Goals as goal

pub returns-in_default : goal.returns-in_default
unfolding match_constructor
returns-in_default c = head_other _ _ _ _ c.sequence_at.ensures c.in_default.not-Char

pub overflow_add-i : goal.overflow_add-i
overflow_add-i c =
    omega (arith, decoded_within _ _ c.sequence_at.ensures c.in-Char.is)

pub returns-then-is_constructor_start : goal.returns-then-is_constructor_start
unfolding match_constructor
returns-then-is_constructor_start c =
    head_yes _ _ _ _ (sym c.sequence_at.ensures ∙ c.in-Char.is) (sym c.is_constructor_start.ensures ∙ c.if-is_constructor_start.true) c.star_chars.ensures

pub returns : goal.returns
unfolding match_constructor
returns c =
    head_no _ _ _ _ (sym c.sequence_at.ensures ∙ c.in-Char.is) (sym c.is_constructor_start.ensures ∙ c.if-is_constructor_start.false)
