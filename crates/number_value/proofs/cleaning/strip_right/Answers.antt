use Prim.Native.Nat.{◌+◌, ◌-◌}
use mathlib.Core.Path.{◌≡◌, sym, ◌∙◌}
use native.Mathlib.Omega.{arith}
use Rattle.number_value.proofs.Stripping.{right_starts, right_goes_on, right_stops, right_ends}
use Rattle.number_value.proofs.cleaning.strip_right.Goals as goal

pub loop-to-init : goal.loop-to-init
loop-to-init c = right_starts _

pub returns-then-not-strips : goal.returns-then-not-strips
returns-then-not-strips c =
    let back : c.loop-to.to - 1 + 1 ≡ c.loop-to.to = omega arith in
    rw back (right_stops c.loop-to.invariant c.loop-to-test.true (sym c.strips.ensures ∙ c.if-not-strips.true))

pub loop-to-preserved : goal.loop-to-preserved
loop-to-preserved c = right_goes_on c.loop-to.invariant c.loop-to-test.true (sym c.strips.ensures ∙ c.if-not-strips.false)

pub returns : goal.returns
returns c =
    let all : c.loop-to.to ≡ 0 = omega arith in
    right_ends (rw all at c.loop-to.invariant)
