-- `backtick_part` looks after a backtick, which is in no part itself.
use mathlib.Core.Path.{sym, ◌∙◌}
use Rattle.match_lit.proofs.ByteLaws.{has_inside}
use Rattle.matchers.proofs.QuoteLaws.{part_tick, part_other}
use native.Mathlib.Omega.{arith}
use Rattle.matchers.proofs.quoted.backtick_part.Goals as goal

pub overflow_add-i : goal.overflow_add-i
overflow_add-i c = omega (arith, has_inside _ _ _ (sym c.byte_is.ensures ∙ c.if-byte_is.true))

pub returns-then-byte_is : goal.returns-then-byte_is
returns-then-byte_is c = c.one_in_backticks.ensures ∙ sym (part_tick _ _ (sym c.byte_is.ensures ∙ c.if-byte_is.true))

pub returns : goal.returns
returns c = c.one_in_backticks-2.ensures ∙ sym (part_other _ _ (sym c.byte_is.ensures ∙ c.if-byte_is.false))
