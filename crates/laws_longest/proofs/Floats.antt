-- Numbers with a point, with an exponent, and reals: what each matcher finds is the longest end of its pattern. The same of their
-- shortest parts, which stop after the point or after one digit of the exponent: such a part has one end. Rests on integers and on
-- the laws of ends that can go on.
use Rattle.std.specs.Prelude.{if◌then◌else◌, Option, Some}
use Prim.Native.Nat.{ℕ, ◌+◌}
use mathlib.Core.Path.{◌≡◌, refl, sym, subst}
use mathlib.Core.Bool.{Bool, true, false, not, ◌||◌}
use mathlib.Core.Logic.{◌⊎◌, inl, inr, ⊎_swap}
use native.Mathlib.Omega.{arith}
use lib.Dec.{eqb}
use Rattle.definition.specs.Basics.{Bytes, ch, codes, mem_cp}
use Rattle.definition.specs.Text.{byte_has, byte_is, star}
use Rattle.definition.specs.Chars.{is_digit}
use Rattle.definition.specs.Matchers.{◌then◌, later, only, match_integer, match_floatp, skip_sign, is_e, match_floate, match_real}
use Rattle.definition.specs.Regex.{Re, chr, seq, many, opt}
use Rattle.definition.specs.Patterns.{text, one_of, integer, floatp, floate}
use Rattle.definition.specs.Samples.{nullable}
use Rattle.lemmas.proofs.Cases.{either}
use Rattle.laws_progress.proofs.Matches.{small_is, small_digit}
use Rattle.laws_longest.proofs.Language.{At}
use Rattle.laws_longest.proofs.Ends.{Right, Single, right_map, right_later, right_then, single_then, single_alt}
use Rattle.laws_longest.proofs.Starts.{starts, at_single, apart, all_pass}
use Rattle.laws_longest.proofs.Shapes.{byte_right, step_single, right_here, right_byte, right_letter, star_right, run_more}
use Rattle.laws_longest.proofs.Literals.{not_both}
use Rattle.laws_longest.proofs.Continues.{two, none_listed, right_two, two_else, right_branch, Continues, single_parted, parted_then, run_continues, then_continues, continues_parted, continues_then}
use Rattle.laws_longest.proofs.Integers.{integer_right}

-- ---- the parts of such numbers

-- A point and digits.
abbrev pub fraction : Re
fraction = seq (text ".") (many (chr is_digit))

-- The letter of an exponent and a sign, with what is after them.
abbrev pub exponent : Re → Re
exponent t = seq (one_of "eE") (seq (opt (one_of "+-")) t)

-- A number with an exponent that ends so.
abbrev pub scientific : Re → Re
scientific t = seq integer (seq (opt fraction) (exponent t))

-- A number up to its point.
abbrev pub pointed : Re
pointed = seq integer (text ".")

-- No digit is a point.
digit_or_point : (c : ℕ) → is_digit c ≡ true → eqb c (ch ".") ≡ true → ⊥
unfolding is_digit
digit_or_point = not_both is_digit (ch ".") refl

-- No digit is the letter of an exponent.
digit_or_letter : (c : ℕ) → is_digit c ≡ true → mem_cp c (codes "eE") ≡ true → ⊥
unfolding is_digit
digit_or_letter c t e = none_listed (codes "eE") is_digit refl c e t

-- What is made of either choice is made of the choice.
choice_within : {X Y : Type 0} (g : X → Y) (t : Bool) (a b : X) → (if t then g a else g b) ≡ g (if t then a else b)
choice_within g true a b = refl
choice_within g false a b = refl

module _ (s : Bytes) where
  -- ---- a part that may be left out

  -- What has it or has it not is one or the other.
  opt_split : (r q : Re) (i e : ℕ) → At s (seq (opt r) q) i e → At s q i e ⊎ At s (seq r q) i e
  opt_split r q i e (m, inl a, b) = inl (subst (λ (k : ℕ). At s q k e) (sym a) b)
  opt_split r q i e (m, inr a, b) = inr (m, a, b)

  -- One or the other is such.
  opt_join : (r q : Re) (i e : ℕ) → At s q i e ⊎ At s (seq r q) i e → At s (seq (opt r) q) i e
  opt_join r q i e (inl b) = (i, inl refl, b)
  opt_join r q i e (inr (m, a, b)) = (m, inr a, b)

  -- ---- digits and what is after them

  -- A run of digits goes on by digits.
  digits_continue : (i : ℕ) → Continues s is_digit (At s integer i)
  digits_continue i = run_continues s is_digit is_digit (λ c t. t) i

  -- What begins with no digit is found after the greatest end of an integer.
  integer_then : (q : Re) → nullable q ≡ false → ((c : ℕ) → is_digit c ≡ true → starts q c ≡ true → ⊥) → {g : ℕ → Option ℕ} → ((j : ℕ) → Right (At s q j) (g j))
      → (i : ℕ) → Right (At s (seq integer q) i) (match_integer s i then g)
  integer_then q full other h i = continues_then s is_digit (digits_continue i) q full other (integer_right s i) h

  -- ---- a point

  -- A point and the longest run of digits after it are found.
  fraction_right : (j : ℕ) → Right (At s fraction j) (only (byte_is (ch ".") s j) (Some (star is_digit s (j + 1))))
  fraction_right j = right_letter s (ch ".") (omega arith) j (j + 1) refl (λ _. star_right s is_digit (j + 1))

  -- They go on by digits.
  fraction_continues : (j : ℕ) → Continues s is_digit (At s fraction j)
  fraction_continues j = then_continues s is_digit (single_parted (At s (many (chr is_digit))) (at_single s (text ".") j refl)) (λ m a b x y h. run_more s x y h)

  -- `match_floatp` finds the longest number with a point.
  pub floatp_right : (i : ℕ) → Right (At s floatp i) (match_floatp s i)
  unfolding match_floatp
  floatp_right i = integer_then fraction refl digit_or_point fraction_right i

  -- It goes on by digits.
  floatp_continues : (i : ℕ) → Continues s is_digit (At s floatp i)
  floatp_continues i = then_continues s is_digit (continues_parted s is_digit (digits_continue i) fraction refl digit_or_point) fraction_continues

  -- `match_real` finds a real number.
  pub real_right : (i : ℕ) → Right (At s (seq floatp (text "R")) i) (match_real s i)
  unfolding match_real is_digit
  real_right i =
      continues_then s is_digit (floatp_continues i) (text "R") refl (not_both is_digit (ch "R") refl) (floatp_right i)
      (λ j. right_byte s (small_is (ch "R") (omega arith)) j (j + 1) refl (λ _. right_here s))

  -- ---- an exponent

  module _ (t : Re) (full : nullable t ≡ false) (unsigned : all_pass (λ c. not (starts t c)) (codes "+-") ≡ true) {g : ℕ → Option ℕ}
      (ends : (j : ℕ) → Right (At s t j) (g j)) where
    -- A sign that may be left out is skipped, and what begins with no sign is found after it.
    sign_right : (k : ℕ) → Right (At s (seq (opt (one_of "+-")) t) k) (g (skip_sign s k))
    unfolding skip_sign
    sign_right k =
        let b : Bool = byte_has (two (ch "+") (ch "-")) s k in
        subst (Right (At s (seq (opt (one_of "+-")) t) k)) (choice_within g b (k + 1) k)
        (right_map (λ e h. opt_join (one_of "+-") t k e (⊎_swap h)) (λ e h. ⊎_swap (opt_split (one_of "+-") t k e h))
        (right_branch (g (k + 1)) (g k) b
        (right_two s (ch "+") (ch "-") (omega arith) (omega arith) k (k + 1) refl (ends (k + 1)))
        (two_else s (ch "+") (ch "-") (omega arith) (omega arith) t full unsigned k)
        (ends k)))

    -- So an exponent is found by its letter.
    exponent_right : (k : ℕ) → Right (At s (exponent t) k) (only (byte_has is_e s k) (g (skip_sign s (k + 1))))
    unfolding is_e
    exponent_right k = right_two s (ch "e") (ch "E") (omega arith) (omega arith) k (k + 1) refl (sign_right (k + 1))

    -- It is found after a run of digits.
    digits_exponent : (j : ℕ) → Right (At s (seq (many (chr is_digit)) (exponent t)) j) (only (byte_has is_e s (star is_digit s j)) (g (skip_sign s (star is_digit s j + 1))))
    digits_exponent j = continues_then s is_digit (λ a b x y h. run_more s x y h) (exponent t) refl digit_or_letter (star_right s is_digit j) exponent_right

    -- It is found with a point and digits in front of it, and without.
    fraction_exponent : (j : ℕ) → Right (At s (seq (opt fraction) (exponent t)) j)
        (later (only (byte_has is_e s j) (g (skip_sign s (j + 1))))
        (only (byte_is (ch ".") s j) (only (byte_has is_e s (star is_digit s (j + 1))) (g (skip_sign s (star is_digit s (j + 1) + 1))))))
    fraction_exponent j =
        right_map (opt_join fraction (exponent t) j) (opt_split fraction (exponent t) j)
        (right_later (exponent_right j)
        (right_map (λ e h. left_hand e h) (λ e h. right_hand e h)
        (right_letter s (ch ".") (omega arith) j (j + 1) refl (λ _. digits_exponent (j + 1)))))
      where
        left_hand : (e : ℕ) → At s (seq (text ".") (seq (many (chr is_digit)) (exponent t))) j e → At s (seq fraction (exponent t)) j e
        left_hand e (m, a, (n, b, c)) = (n, (m, a, b), c)

        right_hand : (e : ℕ) → At s (seq fraction (exponent t)) j e → At s (seq (text ".") (seq (many (chr is_digit)) (exponent t))) j e
        right_hand e (n, (m, a, b), c) = (m, a, (n, b, c))

  -- No digit begins what is after an integer with an exponent.
  digit_or_exponent : (c : ℕ) → is_digit c ≡ true → eqb c (ch ".") || mem_cp c (codes "eE") ≡ true → ⊥
  digit_or_exponent c t e = either (eqb c (ch ".")) (mem_cp c (codes "eE")) (digit_or_point c t) (digit_or_letter c t) e

  -- `match_floate` finds the longest number with an exponent.
  pub floate_right : (i : ℕ) → Right (At s floate i) (match_floate s i)
  unfolding match_floate is_digit
  floate_right i = integer_then (seq (opt fraction) (exponent integer)) refl digit_or_exponent (fraction_exponent integer refl refl (integer_right s)) i

  -- ---- shortest parts

  -- The matcher of a number up to its point.
  abbrev pub match_pointed : ℕ → Option ℕ
  match_pointed i = match_integer s i then λ j. only (byte_is (ch ".") s j) (Some (j + 1))

  -- It finds such a number.
  pub pointed_right : (i : ℕ) → Right (At s pointed i) (match_pointed i)
  pointed_right i = integer_then (text ".") refl digit_or_point (λ j. right_byte s (small_is (ch ".") (omega arith)) j (j + 1) refl (λ _. right_here s)) i

  -- Such a number has one end.
  pub pointed_single : (i : ℕ) → Single (At s pointed i)
  pointed_single i =
      parted_then (λ j k. j ≡ k) (continues_parted s is_digit (digits_continue i) (text ".") refl digit_or_point) (λ m. at_single s (text ".") m refl)

  -- The matcher of an exponent of one digit.
  abbrev short_exponent : ℕ → Option ℕ
  short_exponent k = only (byte_has is_e s k) (only (byte_has is_digit s (skip_sign s (k + 1))) (Some (skip_sign s (k + 1) + 1)))

  -- The matcher of a number with such an exponent.
  abbrev pub match_short : ℕ → Option ℕ
  match_short i = later (match_integer s i then short_exponent) (match_pointed i then λ k. short_exponent (star is_digit s k))

  -- It finds such a number.
  pub short_right : (i : ℕ) → Right (At s (scientific (chr is_digit)) i) (match_short i)
  unfolding is_digit
  short_right i =
      right_map join split
      (right_later
      (integer_then (exponent (chr is_digit)) refl digit_or_letter (exponent_right (chr is_digit) refl refl (byte_right s small_digit)) i)
      (right_then (pointed_single i) (pointed_right i) (λ k _. digits_exponent (chr is_digit) refl refl (byte_right s small_digit) k)))
    where
      join : (e : ℕ) → At s (seq integer (exponent (chr is_digit))) i e ⊎ At s (seq pointed (seq (many (chr is_digit)) (exponent (chr is_digit)))) i e → At s (scientific (chr is_digit)) i e
      join e (inl (m, a, b)) = (m, a, (m, inl refl, b))
      join e (inr (x, (m, a, p), (n, b, c))) = (m, a, (n, inr (x, p, b), c))

      split : (e : ℕ) → At s (scientific (chr is_digit)) i e → At s (seq integer (exponent (chr is_digit))) i e ⊎ At s (seq pointed (seq (many (chr is_digit)) (exponent (chr is_digit)))) i e
      split e (m, a, (n, inl q, c)) = inl (m, a, subst (λ (k : ℕ). At s (exponent (chr is_digit)) k e) (sym q) c)
      split e (m, a, (n, inr (x, p, b), c)) = inr (x, (m, a, p), (n, b, c))

  -- What has a part or has it not has one end, where each has one and they exclude each other.
  opt_single : (r q : Re) (i : ℕ) → Single (At s q i) → Single (At s (seq r q) i) → ((j k : ℕ) → At s q i j → At s (seq r q) i k → ⊥) → Single (At s (seq (opt r) q) i)
  opt_single r q i f g never j k a b = single_alt f g never j k (opt_split r q i j a) (opt_split r q i k b)

  -- An exponent of one digit has one end.
  exponent_single : (i : ℕ) → Single (At s (exponent (chr is_digit)) i)
  unfolding is_digit
  exponent_single i =
      single_then (step_single s) λ m.
      opt_single (one_of "+-") (chr is_digit) m (step_single s) (at_single s (seq (one_of "+-") (chr is_digit)) m refl)
      (λ j k. apart s (chr is_digit) (seq (one_of "+-") (chr is_digit)) m j k refl refl (λ c t e. none_listed (codes "+-") is_digit refl c e t))

  -- So has a number with such an exponent.
  pub short_single : (i : ℕ) → Single (At s (scientific (chr is_digit)) i)
  short_single i =
      parted_then (λ j k. j ≡ k) (continues_parted s is_digit (digits_continue i) (seq (opt fraction) (exponent (chr is_digit))) refl digit_or_exponent) λ m.
      opt_single fraction (exponent (chr is_digit)) m (exponent_single m)
      (parted_then (λ j k. j ≡ k) (continues_parted s is_digit (fraction_continues m) (exponent (chr is_digit)) refl digit_or_letter) exponent_single)
      (λ j k. apart s (exponent (chr is_digit)) (seq fraction (exponent (chr is_digit))) m j k refl refl (none_listed (codes "eE") (λ c. eqb c (ch ".")) refl))
