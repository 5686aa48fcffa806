-- `after` is the end of the character that is decoded.
use mathlib.Core.Path.{sym, ◌∙◌}
use Rattle.utf8.proofs.Character.{decoded_within}
use Rattle.star.proofs.StopLaws.{after_char, after_none}
use native.Mathlib.Omega.{arith}
use Rattle.star.proofs.stops.after.Goals as goal

pub returns-in_default : goal.returns-in_default
returns-in_default c = after_none _ _ c.sequence_at.ensures c.in_default.not-Char

pub overflow_add-result : goal.overflow_add-result
overflow_add-result c =
    let w = decoded_within _ _ c.sequence_at.ensures c.in-Char.is in
    omega (arith, w)

pub returns : goal.returns
returns c = after_char _ _ (sym c.sequence_at.ensures ∙ c.in-Char.is)
