-- `left_after` is the definition's: an equation for each way through it.
use mathlib.Core.Path.{sym, ◌∙◌}
use Rattle.trim_lines.proofs.Kept.{left_newline, left_other}
use Rattle.trim_lines.proofs.left_after.Goals as goal

pub returns-then-b-eq10 : goal.returns-then-b-eq10
returns-then-b-eq10 c = sym (left_newline _ _ _ c.if-b-eq10.true)

pub returns : goal.returns
returns c = c.saturating_sub.ensures ∙ sym (left_other _ _ _ c.if-b-eq10.false)
