use mathlib.Core.Path.{◌≡◌, sym, ◌∙◌}
use native.Mathlib.Omega.{arith}
use Rattle.class_file.proofs.Accepted.{ranges_start, ranges_more, ranges_fail}
use Rattle.class_file.proofs.check.ranges_right.Goals as goal

pub loop-k-init : goal.loop-k-init
loop-k-init c = ranges_start _

pub returns-then-not-class_ascends : goal.returns-then-not-class_ascends
returns-then-not-class_ascends c =
    sym (ranges_fail _ _ c.loop-k-test.true (sym c.class_ascends.ensures ∙ c.if-not-class_ascends.true))

pub loop-k-preserved : goal.loop-k-preserved
loop-k-preserved c = ranges_more _ _ c.loop-k.invariant (sym c.class_ascends.ensures ∙ c.if-not-class_ascends.false)

pub returns : goal.returns
returns c = let e : c.loop-k.k ≡ 6 = omega arith in sym (rw e at c.loop-k.invariant)
