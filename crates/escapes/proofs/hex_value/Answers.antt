use Prim.Native.Nat.{◌<◌}
use native.Mathlib.Omega.{arith}
use mathlib.Core.Path.{◌∙◌}
use lib.ListN.{length-take}
use Rattle.number_value.proofs.Values.{digit_small}
use Rattle.escapes.proofs.Hex.{most_small, hexed_starts, hexed_goes_on, hexed_ends, digits_are}
use Rattle.escapes.proofs.hex_value.Goals as goal

pub loop-digit-init : goal.loop-digit-init
loop-digit-init c = hexed_starts _

pub overflow_mul-value : goal.overflow_mul-value
overflow_mul-value c =
    let l = c.loop-digit in
    let few : l.digit-index < 4 = omega (arith, c.min-end.ensures, simp length-take at c.loop-digit-test.true) in
    omega (arith, l.invariant.small, most_small l.digit-index few)

pub overflow_add-value : goal.overflow_add-value
overflow_add-value c =
    let l = c.loop-digit in
    let few : l.digit-index < 4 = omega (arith, c.min-end.ensures, simp length-take at c.loop-digit-test.true) in
    omega (arith, l.invariant.small, most_small l.digit-index few, digit_small _ _ c.digit_value.ensures)

pub loop-digit-preserved : goal.loop-digit-preserved
loop-digit-preserved c =
    hexed_goes_on c.loop-digit.invariant c.loop-digit-test.true (omega arith) _ c.digit_value.ensures

pub returns : goal.returns
returns c = hexed_ends c.loop-digit.invariant c.loop-digit-test.false ∙ digits_are _ _ _ _ c.requires.within (omega arith)
