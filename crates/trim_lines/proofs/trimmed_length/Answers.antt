use Prim.Native.Nat.{ℕ, ◌+◌}
use mathlib.Core.Path.{refl, sym, ap, ◌∙◌}
use native.Mathlib.Omega.{arith}
use Rattle.trim_lines.specs.Trimming.{one_if}
use Rattle.trim_lines.proofs.Counting.{counting_starts, counting_on, counting_ends}
use Rattle.trim_lines.proofs.Trimming.{whole_length}
use Rattle.trim_lines.proofs.trimmed_length.Goals as goal

pub overflow_add-result : goal.overflow_add-result
overflow_add-result c = omega (arith, c.saturating_sub.ensures, c.requires.within, c.requires.short)

pub returns-then-width-eq0 : goal.returns-then-width-eq0
returns-then-width-eq0 c =
    ap (λ (k : ℕ). k + 2) c.saturating_sub.ensures ∙ sym (whole_length _ _ _ _ c.requires.within c.if-width-eq0.true)

pub loop-b-init : goal.loop-b-init
loop-b-init c = counting_starts _ c.requires c.part-b-items.ensures

pub overflow_add-length : goal.overflow_add-length
overflow_add-length c =
    let g = counting_on c.loop-b.invariant c.loop-b-test.true (c.from-length.ensures ∙ ap one_if c.keeps.ensures) refl in
    omega (arith, g.all, g.short)

pub loop-b-preserved : goal.loop-b-preserved
loop-b-preserved c =
    counting_on c.loop-b.invariant c.loop-b-test.true (c.from-length.ensures ∙ ap one_if c.keeps.ensures) c.left_after-left.ensures

pub overflow_add-result-2 : goal.overflow_add-result-2
overflow_add-result-2 c =
    omega (arith, c.saturating_sub-2.ensures, counting_ends c.loop-b.invariant c.loop-b-test.false, c.loop-b.invariant.short)

pub returns : goal.returns
returns c =
    ap (λ (k : ℕ). c.loop-b.length + k) c.saturating_sub-2.ensures ∙ counting_ends c.loop-b.invariant c.loop-b-test.false
