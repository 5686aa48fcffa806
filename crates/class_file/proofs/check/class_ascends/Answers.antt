use mathlib.Core.Path.{sym, ap, ◌∙◌}
use Prim.Native.Nat.{◌≤◌}
use native.Mathlib.Omega.{arith}
use lib.ListN.{length}
use Rattle.std.specs.Prelude.{map}
use Rattle.std.proofs.lemmas.List.{length-map}
use Rattle.definition.specs.ClassFile.{ascending}
use Rattle.class_file.specs.Search.{range_at}
use Rattle.class_file.proofs.Ranges.{reads_at, ascending_next, ascending_fails, ascending_end}
use Rattle.class_file.proofs.check.class_ascends.Goals as goal

pub loop-range-init : goal.loop-range-init
loop-range-init c = sym (ap (ascending 0) c.class_ranges-range-items.ensures)

pub returns-then-first-least : goal.returns-then-first-least
returns-then-first-least c =
    let r = reads_at range_at _ _ _ _ c.loop-range-test.true c.range_ends-first.ensures in
    sym (c.loop-range.invariant ∙ ascending_fails _ _ _ _ _ r (λ p q l. omega (arith, c.then-first-least.either)))

pub loop-range-preserved : goal.loop-range-preserved
loop-range-preserved c =
    let r = reads_at range_at _ _ _ _ c.loop-range-test.true c.range_ends-first.ensures in
    c.loop-range.invariant ∙ ascending_next _ _ _ _ _ r c.if-first-least.false c.if-last-first.false c.if-last-gt-LAST_CODE_POINT.false

pub returns : goal.returns
returns c =
    let xs = c.class_ranges-range-items.result.now in
    let h : length (map range_at xs) ≤ c.loop-range.range-index = rw length-map c.loop-range-test.false in
    sym (c.loop-range.invariant ∙ ascending_end _ _ _ h)
