-- `at_other` tells a letter, a capital and a digit from what no place begins with.
use mathlib.Core.Path.{sym, ◌∙◌}
use Rattle.select.proofs.Others.{other_letter, other_capital, other_digit, other_none}
use Rattle.select.proofs.at_other.Goals as goal

pub returns-then-is_ident_start : goal.returns-then-is_ident_start
returns-then-is_ident_start c = c.at_letter.ensures ∙ sym (other_letter _ c.requires.1 (sym c.is_ident_start.ensures ∙ c.if-is_ident_start.true))

pub returns-then-is_constructor_start : goal.returns-then-is_constructor_start
returns-then-is_constructor_start c = c.at_capital.ensures ∙ sym (other_capital _ c.requires.1 (sym c.is_constructor_start.ensures ∙ c.if-is_constructor_start.true))

pub returns-then-is_digit : goal.returns-then-is_digit
returns-then-is_digit c = c.at_digit.ensures ∙ sym (other_digit _ c.requires.1 (sym c.is_digit.ensures ∙ c.if-is_digit.true))

pub returns : goal.returns
returns c =
    c.nothing.ensures
    ∙ sym (other_none _ c.requires.1 (sym c.is_ident_start.ensures ∙ c.if-is_ident_start.false) (sym c.is_constructor_start.ensures ∙ c.if-is_constructor_start.false) (sym c.is_digit.ensures ∙ c.if-is_digit.false))
