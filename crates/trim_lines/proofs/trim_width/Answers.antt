use mathlib.Core.Path.{sym, ◌∙◌}
use Rattle.trim_lines.proofs.Pieces.{coming_all}
use Rattle.trim_lines.proofs.Widths.{width_none, going_starts, going_on, going_ends}
use Rattle.trim_lines.proofs.trim_width.Goals as goal

pub loop-b-init : goal.loop-b-init
loop-b-init c = going_starts (coming_all c.part-b-items.ensures)

pub returns-then-margin-eq0 : goal.returns-then-margin-eq0
returns-then-margin-eq0 c = sym (width_none _ _ c.if-margin-eq0.true) ∙ c.loop-b.invariant.same

pub loop-b-preserved : goal.loop-b-preserved
loop-b-preserved c = going_on c.loop-b.invariant c.loop-b-test.true c.narrow-margin.ensures

pub returns : goal.returns
returns c = c.narrowest.ensures ∙ going_ends c.loop-b.invariant c.loop-b-test.false
