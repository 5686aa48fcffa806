use native.Mathlib.Omega.{arith}
use Rattle.number_value.proofs.Digits.{showing_starts, showing_goes_on, showing_more, showing_one, showing_ends, showing_first, showing_length}
use Rattle.number_value.proofs.decimals.show_into.Goals as goal

pub loop-at-init : goal.loop-at-init
loop-at-init c = showing_starts _ _ _ c.requires c.show_length-count.ensures

pub loop-at-preserved : goal.loop-at-preserved
loop-at-preserved c = showing_goes_on c.loop-at.invariant (showing_more c.loop-at.invariant c.loop-at-test.true).0

pub overflow_cast-out-2 : goal.overflow_cast-out-2
overflow_cast-out-2 c = omega (arith, showing_one c.loop-at.invariant c.loop-at-test.false)

pub overflow_add-out-2 : goal.overflow_add-out-2
overflow_add-out-2 c = omega (arith, showing_one c.loop-at.invariant c.loop-at-test.false)

pub bounds-out-0 : goal.bounds-out-0
bounds-out-0 c =
    omega (arith, showing_first c.loop-at.invariant (showing_one c.loop-at.invariant c.loop-at-test.false), showing_length c.loop-at.invariant)

pub returns : goal.returns
returns c =
    record { all = c.show_length-count.ensures; bytes = showing_ends c.loop-at.invariant (showing_one c.loop-at.invariant c.loop-at-test.false) }
