-- The value of a few hexadecimal digits, one by one. Rests on the laws of digits (crate `number_value`).
use Prim.Native.Nat.{ℕ, zero, suc, ◌+◌, ◌-◌, ◌*◌, min, ◌≤◌, ◌<◌}
use mathlib.Core.Path.{◌≡◌, refl, sym, ap, ◌∙◌}
use native.Mathlib.Numerals.{add-one}
use native.Mathlib.Omega.{arith}
use lib.ListN.{length, get_or, take, drop, length-drop, drop_of_length-le}
use lib.Seq.{drop-cons, take_all}
use Rattle.std.proofs.lemmas.List.{drop-take}
use Rattle.lemmas.proofs.Cases.{by_order}
use Rattle.definition.specs.Basics.{Bytes}
use Rattle.definition.specs.Numbers.{digit_value, value_from}
use Rattle.definition.specs.Escapes.{hex_value}
use Rattle.number_value.proofs.Values.{digit_small}

-- i bytes, whatever they are, make at most this
abbrev most : ℕ → ℕ
most zero = 0
most (suc i) = most i * 16 + 255

-- Four bytes make a number that fits.
pub most_small : (i : ℕ) → i < 4 → most i ≤ 69615
most_small zero h = omega arith
most_small (suc zero) h = omega arith
most_small (suc (suc zero)) h = omega arith
most_small (suc (suc (suc zero))) h = omega arith
most_small (suc (suc (suc (suc i)))) h = absurd (omega arith)

-- The first i digits are worth v, and with those left they make the whole value.
pub record Hexed (digits : Bytes) (v i : ℕ) : Type 0 where
  pub small : v ≤ most i
  pub same : value_from 16 v (drop i digits) ≡ value_from 16 0 digits

pub hexed_starts : (digits : Bytes) → Hexed digits 0 0
hexed_starts digits = record { small = omega arith; same = refl }

module _ {digits : Bytes} {v i : ℕ} (d : Hexed digits v i) where
  -- One digit more.
  pub hexed_goes_on : i < length digits → get_or digits i 0 < 256 → (b : ℕ) → b ≡ digit_value (get_or digits i 0) → Hexed digits (v * 16 + b) (i + 1)
  unfolding value_from
  hexed_goes_on l t b e =
      let f = d.small in
      let w = digit_small (get_or digits i 0) b e in
      record {
        small = rw add-one (omega arith);
        same = rw (add-one, e) (ap (value_from 16 v) (sym (drop-cons digits i 0 l)) ∙ d.same);
      }

  -- Where the digits end, the value is v.
  pub hexed_ends : length digits ≤ i → v ≡ value_from 16 0 digits
  unfolding value_from
  hexed_ends h = ap (value_from 16 v) (sym (drop_of_length-le digits h)) ∙ d.same

-- The n bytes from k on, or those that the text still has, are the digits that the definition reads.
pub digits_are : (s : Bytes) (k n m : ℕ) → k ≤ length s → m ≡ min (length s) (k + n) - k → value_from 16 0 (take m (drop k s)) ≡ hex_value s k n
unfolding hex_value
digits_are s k n m h e =
    by_order (length s) (k + n)
    (λ l.
    let p : length (drop k s) ≤ m = simp length-drop (omega arith) in
    let q : length (drop k s) ≤ n = simp length-drop (omega arith) in
    ap (value_from 16 0) (take_all m _ p ∙ sym (take_all n _ q) ∙ sym (drop-take k n s)))
    (λ l.
    let p : m ≡ n = omega arith in
    ap (value_from 16 0) (ap (λ (j : ℕ). take j (drop k s)) p ∙ sym (drop-take k n s)))
