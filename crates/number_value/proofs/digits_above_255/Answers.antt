use native.Mathlib.Omega.{arith}
use Rattle.number_value.proofs.Values.{digit_small, product_small, reading_starts, reading_goes_on, reading_stops, reading_ends}
use Rattle.number_value.proofs.digits_above_255.Goals as goal

pub loop-digit-init : goal.loop-digit-init
loop-digit-init c = reading_starts _ _

pub overflow_mul-n : goal.overflow_mul-n
overflow_mul-n c = omega (arith, product_small _ _ c.loop-digit.invariant.small c.requires)

pub overflow_add-n : goal.overflow_add-n
overflow_add-n c =
    omega (arith, product_small _ _ c.loop-digit.invariant.small c.requires, digit_small _ _ c.digit_value.ensures, c.type_inv.digits c.loop-digit.digit-index)

pub returns-then-n-gt-LARGEST_BYTE : goal.returns-then-n-gt-LARGEST_BYTE
returns-then-n-gt-LARGEST_BYTE c =
    reading_stops c.loop-digit.invariant c.requires c.loop-digit-test.true (rw c.digit_value.ensures at c.if-n-gt-LARGEST_BYTE.true)

pub loop-digit-preserved : goal.loop-digit-preserved
loop-digit-preserved c =
    rw c.digit_value.ensures
    (reading_goes_on c.loop-digit.invariant c.loop-digit-test.true (rw c.digit_value.ensures at c.if-n-gt-LARGEST_BYTE.false))

pub returns : goal.returns
returns c = reading_ends c.loop-digit.invariant c.loop-digit-test.false
