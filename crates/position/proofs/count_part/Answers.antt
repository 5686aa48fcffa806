use native.Mathlib.Omega.{arith}
use native.Mathlib.Numerals.{unary_clauses}
use Prim.Native.Nat.{◌≤◌}
use Rattle.position.proofs.Counting.{unit_is, unit_small, counted_small, counting_starts, counting_goes_on, counting_ends}
use Rattle.position.proofs.count_part.Goals as goal

pub loop-b-init : goal.loop-b-init
loop-b-init c = counting_starts _ _ _ _

pub overflow_add-n : goal.overflow_add-n
overflow_add-n c =
    let m = counted_small _ _ _ _ _ (omega arith) c.loop-b.invariant in
    let u : c.unit-n.result ≤ 1 = rw c.unit-n.ensures (unit_small _) in
    omega arith

pub loop-b-preserved : goal.loop-b-preserved
loop-b-preserved c =
    rw (c.unit-n.ensures, ← unit_is)
    (counting_goes_on _ _ _ _ _ _ c.loop-b-test.true c.loop-b.invariant)

pub returns : goal.returns
returns c = simp unary_clauses at (counting_ends _ _ _ _ _ _ c.loop-b-test.false c.loop-b.invariant)
