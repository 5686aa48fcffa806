-- `hex_pair` is the conjunction of two tests; where the first passes, the offset after i is at most the text's end.
use mathlib.Core.Path.{sym, ◌∙◌}
use Rattle.match_lit.proofs.ByteLaws.{has_inside}
use native.Mathlib.Omega.{arith}
use Rattle.matchers.proofs.quoted.hex_pair.Goals as goal

pub overflow_add-i : goal.overflow_add-i
overflow_add-i c = omega (arith, has_inside _ _ _ (sym c.passes_at.ensures ∙ c.if-passes_at.true))
