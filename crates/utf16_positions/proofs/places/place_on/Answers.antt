use Prim.Native.Nat.{ℕ}
use mathlib.Core.Path.{◌≡◌, ap, ◌∙◌}
use native.Mathlib.Omega.{arith}
use Rattle.utf16_positions.proofs.PlaceLaws.{going_starts, going_on, going_ends}
use Rattle.utf16_positions.proofs.places.place_on.Goals as goal

pub loop-init : goal.loop-init
loop-init c = (going_starts c.requires, omega arith)

pub overflow_add-off : goal.overflow_add-off
overflow_add-off c =
    let g = going_on c.size_at-size.ensures c.loop-test.true c.loop.invariant.0 in
    omega (arith, g.on)

pub loop-preserved : goal.loop-preserved
loop-preserved c = (going_on c.size_at-size.ensures c.loop-test.true c.loop.invariant.0, omega arith)

pub overflow_add-units : goal.overflow_add-units
overflow_add-units c = omega (arith, (loop-preserved c).0.on)

pub overflow_cast-result : goal.overflow_cast-result
overflow_cast-result c = omega (arith, c.loop.invariant.0.on)

pub returns : goal.returns
returns c =
    let e : c.max.result ≡ c.loop.counter = omega (arith, c.max.ensures, c.loop.invariant.1, c.loop-test.false) in
    ap (λ (n : ℕ). record { off = c.loop.off; col = n; units = c.loop.units }) e ∙ going_ends c.loop-test.false c.loop.invariant.0
