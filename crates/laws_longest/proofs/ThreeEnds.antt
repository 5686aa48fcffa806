-- Of the seven ends after which a number may go on as an identifier three are enough: the longest integer, the shortest part up to a
-- point, and the shortest with an exponent. Rests on the laws of bad numbers.
use Rattle.std.specs.Prelude.{Option, Some, None}
use Prim.Native.Nat.{ℕ}
use mathlib.Core.Path.{◌≡◌, refl, ap, subst}
use mathlib.Core.Bool.{true, false}
use mathlib.Core.Logic.{inl, inr, ⊎_elim}
use native.Mathlib.Omega.{arith}
use Rattle.definition.specs.Basics.{Bytes, codes, mem_cp}
use Rattle.definition.specs.Chars.{is_digit, is_hex, is_ident_char}
use Rattle.definition.specs.Matchers.{◌then◌, later, plus, match_integer, match_bad_number}
use Rattle.definition.specs.Samples.{nullable}
use Rattle.definition.specs.Regex.{Re, chr, seq, alt}
use Rattle.definition.specs.Patterns.{integer, xinteger, xieee64}
use Rattle.lemmas.proofs.Cases.{either}
use Rattle.lemmas.proofs.Each.{none_left, ◌⨾◌}
use Rattle.laws_progress.proofs.Ends.{Ends as Each_end, ends_then, ends_later, ends_max}
use Rattle.laws_longest.proofs.Language.{At}
use Rattle.laws_longest.proofs.Ends.{some_end}
use Rattle.laws_longest.proofs.Starts.{starts, step_same, apart}
use Rattle.laws_longest.proofs.Continues.{none_listed}
use Rattle.laws_longest.proofs.Shapes.{text_right, plus_right}
use Rattle.laws_longest.proofs.Places.{Reaches}
use Rattle.laws_longest.proofs.Integers.{based, octal_or_binary, xinteger_right}
use Rattle.laws_longest.proofs.Floats.{pointed, scientific, match_pointed, match_short, floatp_right, floate_right, pointed_right, pointed_single, short_right, short_single}
use Rattle.laws_longest.proofs.BadNumbers.{Within, xinteger_within, xieee64_within, letters, reaches_later, right_end, by_integer, by_point, by_exponent, short_reaches, run_found, zero_first}

-- Two answers that reach each other are one.
same_reach : (m n : Option ℕ) → Each_end (λ k. Reaches k n) m → Each_end (λ k. Reaches k m) n → m ≡ n
same_reach None None f g = refl
same_reach None (Some b) f g = some_end (g.at refl).1
same_reach (Some a) None f g = some_end (f.at refl).1
same_reach (Some a) (Some b) f g =
    let x = f.at refl in
    let y = g.at refl in
    let p : b ≡ x.0 = cc x.1 in
    let q : a ≡ y.0 = cc y.1 in
    let same : a ≡ b = omega (arith, x.2, y.2) in
    ap Some same

-- An answer is reached by what each end that it has reaches.
reached_by : {P : ℕ → Type 0} {m : Option ℕ} → ((k : ℕ) → Reaches k m → P k) → Each_end P m
reached_by f = record { at = λ {e} q. f e (e, q, omega arith) }

-- What stands after the 0 of an integer with a letter.
abbrev strip_if_last_zero : Re
strip_if_last_zero = alt (based "xX" is_hex) octal_or_binary

-- It begins with no digit.
letter_first : (c : ℕ) → starts strip_if_last_zero c ≡ true → starts integer c ≡ true → ⊥
unfolding mem_cp is_digit
letter_first c =
    either (mem_cp c (codes "xX")) _ (none_listed (codes "xX") is_digit refl c)
    (either (mem_cp c (codes "oO")) _ (none_listed (codes "oO") is_digit refl c) (none_listed (codes "bB") is_digit refl c))

module _ (s f : Bytes) (i : ℕ) where
  -- The identifier characters after an end.
  abbrev wrong : Option ℕ → Option ℕ
  wrong m = m then plus (is_ident_char f) s

  -- The latest of the three.
  abbrev three : Option ℕ
  three = later (wrong (match_integer s i)) (later (wrong (match_pointed s i)) (wrong (match_short s i)))

  -- What is reached after the integer the three reach.
  at_integer : (k : ℕ) → Reaches k (wrong (match_integer s i)) → Reaches k three
  at_integer k h = reaches_later _ _ k (inl h)

  -- So they do after the point,
  at_point : (k : ℕ) → Reaches k (wrong (match_pointed s i)) → Reaches k three
  at_point k h = reaches_later _ _ k (inr (reaches_later _ _ k (inl h)))

  -- and after the exponent.
  at_exponent : (k : ℕ) → Reaches k (wrong (match_short s i)) → Reaches k three
  at_exponent k h = reaches_later _ _ k (inr (reaches_later _ _ k (inr h)))

  -- An integer with a letter is no integer of two digits.
  not_two : (m e : ℕ) → At s xinteger i m → At s (seq (chr is_digit) integer) i e → ⊥
  not_two m e (n, (x, z, q), b) (j, a, d) =
      let same : j ≡ n = omega (arith, (step_same a z).0) in
      apart s strip_if_last_zero integer n m e refl refl letter_first b (subst (λ (y : ℕ). At s integer y e) same d)

  -- What goes on after an integer with a letter goes on after its 0.
  based_reached : (r : Re) → Within (is_ident_char f) r → nullable r ≡ false → (n m k : ℕ) → At s xinteger i n → At s r i m → At s (letters f) m k → Reaches k three
  based_reached r w z n m k x a b =
      let d = zero_first s f i n x in
      at_integer k (⊎_elim (λ h. h) (λ (e, t, l). absurd (not_two n e x t)) (run_found s f i r w z d.0 m k d.1 a b))

  -- Where a matcher's ends are parts of a number, the three reach what goes on after them.
  letters_after : {P : ℕ → Type 0} {m : Option ℕ} → Each_end P m → ((n k : ℕ) → P n → At s (letters f) n k → Reaches k three) → Each_end (λ k. Reaches k three) (wrong m)
  letters_after h g = ends_then h (λ n p. right_end (plus_right s (is_ident_char f) n) (λ k. g n k p))

  -- The three reach all that the seven do.
  seven_reached : Each_end (λ k. Reaches k three) (match_bad_number s f i)
  unfolding match_bad_number
  seven_reached =
      ends_max
      (reached_by at_integer
      ⨾ letters_after (right_end (xinteger_right s i) (λ e h. h)) (λ n k x. based_reached xinteger (xinteger_within f) refl n n k x x)
      ⨾ letters_after (right_end (floatp_right s i) (λ e h. h))
      (λ n k (a, x, (j, y, c)) b. at_point k (short_reaches s f i pointed (pointed_single s i) (pointed_right s i) j n k (a, x, y) c b))
      ⨾ letters_after (right_end (floate_right s i) (λ e h. h))
      (λ n k (a, x, (m, y, (o, z, (p, w, (j, t, c))))) b.
      at_exponent k (short_reaches s f i (scientific (chr is_digit)) (short_single s i) (short_right s i) j n k (a, x, (m, y, (o, z, (p, w, t)))) c b))
      ⨾ letters_after {P = At s xieee64 i} (ends_then (right_end (xinteger_right s i) (λ e h. h)) (λ j x. right_end (text_right s "LF" refl j) (λ e h. (j, x, h))))
      (λ n k (j, x, h). based_reached xieee64 (xieee64_within f) refl j n k x (j, x, h))
      ⨾ reached_by at_point
      ⨾ reached_by at_exponent
      ⨾ none_left)

  -- So the latest of the three is what the matcher finds.
  pub three_ends : later (match_integer s i then plus (is_ident_char f) s) (later (match_pointed s i then plus (is_ident_char f) s) (match_short s i then plus (is_ident_char f) s))
      ≡ match_bad_number s f i
  three_ends =
      same_reach three (match_bad_number s f i)
      (ends_later (reached_by (by_integer s f i)) (ends_later (reached_by (by_point s f i)) (reached_by (by_exponent s f i))))
      seven_reached
