-- The definition's numbers from the end of their digits on: fractions, exponents, and numbers that go wrong. Rests on the laws of
-- matchers put together, and on the law of the longest match that three ends of a bad number are enough.
use Rattle.std.specs.Prelude.{Option, Some, None}
use Prim.Native.Nat.{ℕ, ◌+◌}
use mathlib.Core.Path.{◌≡◌, refl, sym, ap, ◌∙◌}
use mathlib.Core.Bool.{Bool, true, false}
use Rattle.definition.specs.Basics.{Bytes, ch}
use Rattle.definition.specs.Text.{byte_has, byte_is, star}
use Rattle.definition.specs.Chars.{is_digit, is_ident_char}
use Rattle.definition.specs.Matchers.{◌then◌, later, only, plus, match_integer, match_floatp, skip_sign, is_e, match_real, match_bad_number}
use Rattle.match_number.specs.FloatParts.{byte_end, point, fraction, real_end, short_exponent, short_float, bad_number_at_ends}
use Rattle.match_number.proofs.IntegerLaws.{then_of}
use Rattle.laws_longest.proofs.ThreeEnds.{three_ends}

-- ---- fractions and exponents

-- Digits after a point are a fraction.
point_digits : (s : Bytes) (m : Option ℕ) → (m then point s then λ j. Some (star is_digit s j)) ≡ (m then fraction s)
unfolding byte_end fraction
point_digits s (Some j) = go (byte_is (ch ".") s j)
  where
    go : (t : Bool) → (only t (Some (j + 1)) then λ j. Some (star is_digit s j)) ≡ only t (Some (star is_digit s (j + 1)))
    go true = refl
    go false = refl
point_digits s None = refl

-- Without a point there is no fraction.
pub fraction_none : (s : Bytes) (m : Option ℕ) → (m then point s) ≡ None → None ≡ (m then fraction s)
fraction_none s m e = ap (λ (n : Option ℕ). n then λ j. Some (star is_digit s j)) (sym e) ∙ point_digits s m

-- With one it goes to the end of the digits after it.
pub fraction_some : (s : Bytes) (m : Option ℕ) {j e : ℕ} → (m then point s) ≡ Some j → e ≡ star is_digit s j → Some e ≡ (m then fraction s)
fraction_some s m p q = ap Some q ∙ ap (λ (n : Option ℕ). n then λ j. Some (star is_digit s j)) (sym p) ∙ point_digits s m

module _ (s : Bytes) (k : ℕ) where
  -- The shortest exponent: no letter,
  pub short_no : byte_has is_e s k ≡ false → short_exponent s k ≡ None
  unfolding short_exponent
  short_no e = rw e

  -- no digit after it,
  pub short_none : {x : ℕ} → byte_has is_e s k ≡ true → x ≡ skip_sign s (k + 1) → byte_has is_digit s x ≡ false → short_exponent s k ≡ None
  unfolding short_exponent
  short_none {x} e q d = rw (e, ← q, d)

  -- or one digit.
  pub short_yes : {x : ℕ} → byte_has is_e s k ≡ true → x ≡ skip_sign s (k + 1) → byte_has is_digit s x ≡ true → short_exponent s k ≡ Some (x + 1)
  unfolding short_exponent
  short_yes {x} e q d = rw (e, ← q, d)

-- One matcher after another goes over to the end of the whole.
then_then : (m : Option ℕ) (f g : ℕ → Option ℕ) → (m then f then g) ≡ (m then λ j. (f j then g))
then_then (Some j) f g = refl
then_then None f g = refl

-- `match_real` is an R after a float.
pub real_is : (s : Bytes) (i : ℕ) → (match_floatp s i then real_end s) ≡ match_real s i
unfolding match_real byte_end
real_is s i = refl

-- `match_floatp` is a fraction after the digits.
pub floatp_is : (s : Bytes) (i : ℕ) → (match_integer s i then fraction s) ≡ match_floatp s i
unfolding match_floatp fraction
floatp_is s i = refl

-- An R after a float that is known by equations.
pub real_of : (s : Bytes) (i : ℕ) {digits float r : Option ℕ} → r ≡ (float then real_end s) → digits ≡ match_integer s i → float ≡ (digits then fraction s)
    → r ≡ match_real s i
real_of s i p q h = then_of (real_end s) p (then_of (fraction s) h q ∙ floatp_is s i) ∙ real_is s i

-- ---- numbers that go wrong

-- The shortest float with an exponent, in the definition's words.
short_is : (s : Bytes) (m : Option ℕ)
    → short_float s m (m then fraction s) ≡ later (m then short_exponent s) (m then point s then λ k. short_exponent s (star is_digit s k))
unfolding short_float
short_is s m = ap (later (m then short_exponent s)) (ap (λ (n : Option ℕ). n then short_exponent s) (sym (point_digits s m)) ∙ then_then (m then point s) (λ j. Some (star is_digit s j)) (short_exponent s))

-- A number that goes wrong is identifier characters after one of three ends, which are enough.
pub bad_number_is : (s f : Bytes) (i : ℕ) → bad_number_at_ends s f (match_integer s i) (match_integer s i then fraction s) ≡ match_bad_number s f i
unfolding bad_number_at_ends byte_end short_exponent
bad_number_is s f i =
    let wrong : Option ℕ → Option ℕ = λ m. m then plus (is_ident_char f) s in
    ap (λ (m : Option ℕ). later (wrong (match_integer s i)) (later (wrong (match_integer s i then point s)) (wrong m))) (short_is s (match_integer s i)) ∙ three_ends s f i

-- The same of digits and a fraction that are known by equations.
pub bad_number_of : (s f : Bytes) (i : ℕ) {digits float r : Option ℕ} → r ≡ bad_number_at_ends s f digits float → digits ≡ match_integer s i
    → float ≡ (digits then fraction s) → r ≡ match_bad_number s f i
bad_number_of s f i p q h =
    p ∙ ap (bad_number_at_ends s f _) h ∙ ap (λ (m : Option ℕ). bad_number_at_ends s f m (m then fraction s)) q ∙ bad_number_is s f i
