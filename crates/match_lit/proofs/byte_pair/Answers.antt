-- Where the first byte stands, the offset after i is at most the text's end.
use mathlib.Core.Path.{sym, ◌∙◌}
use Rattle.match_lit.proofs.ByteLaws.{has_inside}
use native.Mathlib.Omega.{arith}
use Rattle.match_lit.proofs.byte_pair.Goals as goal

pub overflow_add-i : goal.overflow_add-i
overflow_add-i c = omega (arith, has_inside _ _ _ (sym c.byte_is.ensures ∙ c.if-byte_is.true))
