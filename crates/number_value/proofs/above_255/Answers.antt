-- Each return is one way of reading a number: decimal digits, with a 0 before them or without, and those of a base.
use mathlib.Core.Path.{◌≡◌, sym, ap, ◌∙◌}
use native.Mathlib.Omega.{arith}
use borrow.Author.Tests.{ltb-true}
use lib.Dec.{ltb}
use lib.ListN.{length, get_or, take, drop, length-drop}
use lib.Seq.{take_all}
use Prim.Native.Nat.{◌-◌}
use Rattle.number_value.proofs.Values.{base_named, int_short, int_plain, int_decimal, int_based}
use Rattle.number_value.proofs.above_255.Goals.{in_default-via-then-number-lt2, in_default-via-else-number-lt2+in_default-1}
use Rattle.number_value.proofs.above_255.Goals as goal

pub returns-in_default : goal.returns-in_default
returns-in_default c =
    let s = c.args.number.now in
    elim c.in_default.branch [
      | in_default-via-then-number-lt2 w ↦ c.digits_above_255.ensures ∙ sym (ap (ltb 255) (int_short s (omega (arith, ltb-true))))
      | in_default-via-else-number-lt2+in_default-1 w ↦ c.digits_above_255.ensures ∙ sym (ap (ltb 255) (int_plain s (λ e. omega arith)))
    ]

pub digits_above_255-requires-in_default-base_of : goal.digits_above_255-requires-in_default-base_of
digits_above_255-requires-in_default-base_of c = rw c.base_of.ensures (base_named _ (λ e. omega arith))

pub returns-in-0 : goal.returns-in-0
returns-in-0 c =
    let s = c.args.number.now in
    let zero : get_or s 0 0 ≡ 48 = omega arith in
    c.digits_above_255-in-0.ensures ∙ sym (ap (ltb 255) (int_decimal s c.in-48.len_at_least zero (sym c.base_of.ensures ∙ c.in-0.is)))

pub returns-in_default-base_of : goal.returns-in_default-base_of
returns-in_default-base_of c =
    let s = c.args.number.now in
    let zero : get_or s 0 0 ≡ 48 = omega arith in
    let rest : take (length s - 2) (drop 2 s) ≡ drop 2 s = take_all _ _ (simp length-drop (omega arith)) in
    rw (c.base_of.ensures, rest) at c.digits_above_255-in_default-base_of.ensures
    ∙ sym (ap (ltb 255) (int_based s c.in-48.len_at_least zero (λ e. omega arith)))
