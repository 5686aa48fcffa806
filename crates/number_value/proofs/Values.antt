-- The value of a text of digits against 255: a value never falls as digits are added, so one that is above 255 stays above. Rests on
-- nothing but the definition.
use Rattle.std.specs.Prelude.{if◌then◌else◌}
use Prim.Native.Nat.{ℕ, ◌+◌, ◌-◌, ◌*◌, ◌≤◌, ◌<◌}
use mathlib.Core.Path.{◌≡◌, refl, sym, ap, ◌∙◌}
use mathlib.Core.Bool.{Bool, true, false, ◌||◌}
use mathlib.Core.List.{[], ◌∷◌}
use mathlib.Core.Logic.{⊎_elim, inl, inr}
use native.Mathlib.Nat.{mul-le-mul, mul-le-mul_left}
use native.Mathlib.Numerals.{add-one}
use native.Mathlib.Omega.{arith}
use types.Run.{OneOf}
use lib.Dec.{ltb, eqb}
use lib.ListN.{length, get_or, drop, drop_of_length-le}
use lib.Seq.{drop-cons}
use borrow.Author.Tests.{lt-ltb, le-ltb, lt-leb, eq-eqb, ne_eqb}
use Rattle.definition.specs.Basics.{Bytes, ch, between}
use Rattle.definition.specs.Numbers.{digit_value, value_from, base_of, after_zero, int_of_string}
use Rattle.lemmas.proofs.Cases.{by_order, by_equal}
use Rattle.number_value.specs.NumeralContracts.{Base}

-- ---- bases

-- A capital or a small letter, as a `match` finds it.
pub base_16 : (b : ℕ) → OneOf (88 ∷ 120 ∷ []) b → base_of b ≡ 16
unfolding base_of
base_16 b h = ⊎_elim (λ e. ap base_of e) (λ e. ap base_of e) h

pub base_8 : (b : ℕ) → OneOf (79 ∷ 111 ∷ []) b → base_of b ≡ 8
unfolding base_of
base_8 b h = ⊎_elim (λ e. ap base_of e) (λ e. ap base_of e) h

pub base_2 : (b : ℕ) → OneOf (66 ∷ 98 ∷ []) b → base_of b ≡ 2
unfolding base_of
base_2 b h = ⊎_elim (λ e. ap base_of e) (λ e. ap base_of e) h

-- Any other byte names none.
pub base_none : (b : ℕ) → (OneOf (88 ∷ 120 ∷ []) b → ⊥) → (OneOf (79 ∷ 111 ∷ []) b → ⊥) → (OneOf (66 ∷ 98 ∷ []) b → ⊥) → base_of b ≡ 0
unfolding base_of
base_none b x o d =
    simp (ne_eqb b 120 (λ e. x (inr e)), ne_eqb b 88 (λ e. x (inl e)), ne_eqb b 111 (λ e. o (inr e)), ne_eqb b 79 (λ e. o (inl e)), ne_eqb b 98 (λ e. d (inr e)), ne_eqb b 66 (λ e. d (inl e)), base_of)

-- A letter that names a base names one whose digits can be read.
pub base_named : (b : ℕ) → (base_of b ≡ 0 → ⊥) → Base (base_of b)
unfolding base_of
base_named b h = record {
  some = by_order 0 (base_of b) (λ l. l) (λ l. absurd (h (omega arith)));
  small = go (eqb b 120 || eqb b 88) (eqb b 111 || eqb b 79) (eqb b 98 || eqb b 66);
}
  where
    go : (x o d : Bool) → (if x then 16 else if o then 8 else if d then 2 else 0) ≤ 16
    go true o d = omega arith
    go false true d = omega arith
    go false false true = omega arith
    go false false false = omega arith

-- ---- what is read

-- Nothing is worth nothing.
pub int_empty : (s : Bytes) → length s ≡ 0 → int_of_string s ≡ 0
unfolding int_of_string
int_empty [] h = refl
int_empty (b ∷ l) h = absurd (omega arith)

-- A 0 alone.
pub int_zero : (s : Bytes) → length s ≡ 1 → get_or s 0 0 ≡ 48 → int_of_string s ≡ 0
unfolding int_of_string after_zero
int_zero [] h e = absurd (omega arith)
int_zero (b ∷ []) h e = rw (int_of_string, eq-eqb b 48 e)
int_zero (b ∷ d ∷ l) h e = absurd (omega arith)

-- A first 0 adds nothing to decimal digits.
zero_first : (l : Bytes) → value_from 10 0 (48 ∷ l) ≡ value_from 10 0 l
unfolding value_from digit_value
zero_first l = refl

-- Fewer than two bytes are decimal digits.
pub int_short : (s : Bytes) → length s < 2 → int_of_string s ≡ value_from 10 0 s
unfolding int_of_string after_zero value_from
int_short [] h = refl
int_short (b ∷ []) h =
    by_equal b 48
    (λ e. rw (e, int_of_string, zero_first []))
    (λ n. rw (int_of_string, ne_eqb b 48 n))
int_short (b ∷ d ∷ l) h = absurd (omega arith)

-- Without a first 0 all bytes are.
pub int_plain : (s : Bytes) → (get_or s 0 0 ≡ 48 → ⊥) → int_of_string s ≡ value_from 10 0 s
unfolding int_of_string value_from
int_plain [] n = refl
int_plain (b ∷ l) n = rw (int_of_string, ne_eqb b 48 n)

-- So are they after a first 0 where the next byte names no base.
pub int_decimal : (s : Bytes) → 2 ≤ length s → get_or s 0 0 ≡ 48 → base_of (get_or s 1 0) ≡ 0 → int_of_string s ≡ value_from 10 0 s
unfolding int_of_string after_zero
int_decimal [] w e h = absurd (omega arith)
int_decimal (b ∷ []) w e h = absurd (omega arith)
int_decimal (b ∷ d ∷ l) w e h = rw (e, int_of_string, after_zero, eq-eqb (base_of d) 0 h, zero_first (d ∷ l))

-- After a 0 and a base stand the digits of that base.
pub int_based : (s : Bytes) → 2 ≤ length s → get_or s 0 0 ≡ 48 → (base_of (get_or s 1 0) ≡ 0 → ⊥)
    → int_of_string s ≡ value_from (base_of (get_or s 1 0)) 0 (drop 2 s)
unfolding int_of_string after_zero
int_based [] w e h = absurd (omega arith)
int_based (b ∷ []) w e h = absurd (omega arith)
int_based (b ∷ d ∷ l) w e h = rw (int_of_string, eq-eqb b 48 e, after_zero, ne_eqb (base_of d) 0 h)

-- ---- digit by digit

-- What a digit adds is at most the byte.
pub digit_small : (b d : ℕ) → d ≡ digit_value b → d ≤ b
unfolding digit_value
digit_small b d e = rw e (go (between (ch "0") (ch "9") b) (between (ch "a") (ch "f") b))
  where
    go : (t u : Bool) → (if t then b - 48 else if u then b - 87 else b - 55) ≤ b
    go true u = omega arith
    go false true = omega arith
    go false false = omega arith

-- A byte below the digits adds nothing.
pub digit_below : (b : ℕ) → b < 48 → 0 ≡ digit_value b
unfolding digit_value
digit_below b h =
    let k : b < 97 = omega arith in
    simp (digit_value, lt-leb 48 b h, lt-leb 97 b k) (omega arith)

-- Digits never make a value smaller.
value_grows : (base n : ℕ) (l : Bytes) → 1 ≤ base → n ≤ value_from base n l
unfolding value_from
value_grows base n [] h = omega arith
value_grows base n (b ∷ l) h =
    omega (arith, mul-le-mul_left n h, value_grows base (n * base + digit_value b) l h)

-- A value of 255 at most, with a digit more, stays small.
pub product_small : (n base : ℕ) → n ≤ 255 → Base base → n * base ≤ 4080
product_small n base h b = mul-le-mul h b.small

-- The first i digits make n, which is 255 at most, and with those from i on they make the whole value.
pub record Reading (s : Bytes) (base n i : ℕ) : Type 0 where
  pub small : n ≤ 255
  pub same : value_from base n (drop i s) ≡ value_from base 0 s

pub reading_starts : (s : Bytes) (base : ℕ) → Reading s base 0 0
reading_starts s base = record { small = omega arith; same = refl }

module _ {s : Bytes} {base n i : ℕ} (r : Reading s base n i) where
  -- One digit more.
  digit_more : i < length s → value_from base (n * base + digit_value (get_or s i 0)) (drop (i + 1) s) ≡ value_from base 0 s
  unfolding value_from
  digit_more h = rw add-one (ap (value_from base n) (sym (drop-cons s i 0 h)) ∙ r.same)

  pub reading_goes_on : i < length s → n * base + digit_value (get_or s i 0) ≤ 255 → Reading s base (n * base + digit_value (get_or s i 0)) (i + 1)
  reading_goes_on h l = record { small = l; same = digit_more h }

  -- A value above 255 stays above it.
  pub reading_stops : Base base → i < length s → 255 < n * base + digit_value (get_or s i 0) → true ≡ ltb 255 (value_from base 0 s)
  reading_stops b h l =
      let m = n * base + digit_value (get_or s i 0) in
      let v = value_from base 0 s in
      let g : m ≤ v = rw (digit_more h) at (value_grows base m (drop (i + 1) s) b.some) in
      sym (lt-ltb 255 v (omega arith))

  -- At the end the value is n.
  pub reading_ends : length s ≤ i → false ≡ ltb 255 (value_from base 0 s)
  unfolding value_from
  reading_ends h =
      let v = value_from base 0 s in
      let e : n ≡ v = ap (value_from base n) (sym (drop_of_length-le s h)) ∙ r.same in
      let l = r.small in
      sym (le-ltb 255 v (omega arith))
