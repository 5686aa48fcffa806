use mathlib.Core.Path.{sym, ◌∙◌}
use native.Mathlib.Omega.{arith}
use Rattle.definition.specs.ClassFile.{class_offset, class_count}
use Rattle.class_file.proofs.Accepted.{placed_start, placed_next, placed_wrong, placed_end}
use Rattle.class_file.proofs.check.laid_out.Goals as goal

pub loop-k-init : goal.loop-k-init
loop-k-init c = placed_start _

pub returns-then-from-place : goal.returns-then-from-place
unfolding class_offset
returns-then-from-place c =
    sym (placed_wrong _ _ _ c.loop-k.invariant c.loop-k-test.true (λ e. c.if-from-place.true (c.from.ensures ∙ (c.number_at.ensures ∙ e))))

pub loop-k-preserved : goal.loop-k-preserved
unfolding class_offset class_count
loop-k-preserved c =
    placed_next _ _ _ _ c.loop-k.invariant c.loop-k-test.true (omega arith) (c.from-in-loop-k.ensures ∙ c.number_at-in-loop-k.ensures)
    (sym c.number_at.ensures ∙ (sym c.from.ensures ∙ c.if-from-place.false))

pub returns : goal.returns
returns c = sym (placed_end _ _ _ c.loop-k.invariant (omega arith))
