use native.Mathlib.Omega.{arith}
use Rattle.number_value.proofs.Digits.{counted_starts, counted_goes_on, counted_ends}
use Rattle.number_value.proofs.decimals.show_length.Goals as goal

pub loop-left-init : goal.loop-left-init
loop-left-init c = counted_starts _

pub overflow_add-count : goal.overflow_add-count
overflow_add-count c = omega (arith, c.loop-left.invariant.few)

pub loop-left-preserved : goal.loop-left-preserved
loop-left-preserved c = counted_goes_on c.loop-left.invariant c.loop-left-test.true

pub returns : goal.returns
returns c = counted_ends c.loop-left.invariant c.loop-left-test.false
