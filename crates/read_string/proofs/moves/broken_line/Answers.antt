-- A line's end is looked for after a backslash.
use mathlib.Core.Path.{sym, ◌∙◌}
use Rattle.match_lit.proofs.ByteLaws.{has_inside}
use Rattle.read_string.proofs.MoveLaws.{broken_on, broken_off}
use native.Mathlib.Omega.{arith}
use Rattle.read_string.proofs.moves.broken_line.Goals as goal

pub overflow_add-i : goal.overflow_add-i
overflow_add-i c = omega (arith, has_inside _ _ _ (sym c.byte_is.ensures ∙ c.if-byte_is.true))

pub returns-then-byte_is : goal.returns-then-byte_is
returns-then-byte_is c = broken_on _ _ (sym c.byte_is.ensures ∙ c.if-byte_is.true) c.match_newline.ensures

pub returns : goal.returns
returns c = broken_off _ _ (sym c.byte_is.ensures ∙ c.if-byte_is.false)
