-- Integers, plain or with a letter for their base, alone or with a suffix: what each matcher finds is the longest end of its pattern.
-- After the lesser of two ends of an integer stands a hexadecimal digit, and no suffix begins with one. Rests on the shapes and on the
-- laws of ends that can go on.
use Rattle.std.specs.Prelude.{Option}
use Prim.Native.Nat.{ℕ, ◌+◌, ◌≤◌}
use Prim.Native.String.{String}
use mathlib.Core.Path.{◌≡◌, refl, subst}
use mathlib.Core.Bool.{Bool, true, false, not, false≢true}
use mathlib.Core.List.{List, [], ◌∷◌, map}
use mathlib.Core.Logic.{◌⊎◌, inl, inr}
use native.Mathlib.Omega.{arith}
use lib.Dec.{leb}
use borrow.Author.Tests.{le-leb, not-true}
use Rattle.definition.specs.Basics.{Bytes, ch, codes, mem_cp, between}
use Rattle.definition.specs.Text.{byte_has}
use Rattle.definition.specs.Chars.{is_digit, is_hex}
use Rattle.definition.specs.Tables.{cps}
use Rattle.definition.specs.Matchers.{◌then◌, max_list, plus, match_integer, match_xinteger, any_integer_ends, match_int_suffix, match_int_usuffix}
use Rattle.definition.specs.Regex.{Re, chr, seq, alt, at_least_one, word}
use Rattle.definition.specs.Patterns.{text, one_of, integer, xinteger, any_integer, suffixed, usuffixed}
use Rattle.definition.specs.Samples.{nullable}
use Rattle.lemmas.proofs.Cases.{both, both_true, between_true}
use Rattle.laws_progress.proofs.Words.{all_plain}
use Rattle.laws_longest.proofs.Language.{At}
use Rattle.laws_longest.proofs.Ends.{Right, right_map, right_else}
use Rattle.laws_longest.proofs.Starts.{starts, at_single, apart, listed_passes}
use Rattle.laws_longest.proofs.Shapes.{step_single, right_letter, text_right, plus_right}
use Rattle.laws_longest.proofs.Literals.{not_both}
use Rattle.laws_longest.proofs.Places.{suffix_like}
use Rattle.laws_longest.proofs.Continues.{two, two_listed, none_listed, right_two, two_else, right_branch, right_max, Continues, single_parted, run_continues, then_continues, alt_continues, continues_then}

-- ---- integers

-- One of at_least_one letters for the base, and digits.
abbrev pub based : String → (ℕ → Bool) → Re
based letters p = seq (one_of letters) (at_least_one (chr p))

-- What stands after the 0 of a binary integer.
abbrev pub binary : Re
binary = based "bB" (λ c. mem_cp c (codes "01"))

-- What stands after that of an octal or a binary one.
abbrev pub octal_or_binary : Re
octal_or_binary = alt (based "oO" (between (ch "0") (ch "7"))) binary

-- A digit is a hexadecimal one.
pub digit_hex : (c : ℕ) → is_digit c ≡ true → is_hex c ≡ true
unfolding is_hex
digit_hex c t = rw t refl

-- What lies between two characters lies between wider ones.
pub between_wider : (a b n c : ℕ) → b ≤ n → between a b c ≡ true → between a n c ≡ true
between_wider a b n c l t =
    let h = between_true a b c t in
    both_true (leb a c) (leb c n) (le-leb a c h.0) (le-leb c n (omega (arith, h.1)))

-- So an octal digit is one too.
pub octal_hex : (c : ℕ) → between (ch "0") (ch "7") c ≡ true → is_hex c ≡ true
unfolding is_digit
octal_hex c t = digit_hex c (between_wider (ch "0") (ch "7") (ch "9") c (omega arith) t)

-- ---- suffixes

-- What holds of the characters of a suffix.
record Suffix (cs : List ℕ) : Type 0 where
  spelled : all_plain cs ≡ true
  full : nullable (word cs) ≡ false
  other : (c : ℕ) → is_hex c ≡ true → starts (word cs) c ≡ true → ⊥

-- It is computed of them.
suffix_is : (cs : List ℕ) → suffix_like cs ≡ true → Suffix cs
suffix_is [] h = absurd (false≢true h)
suffix_is (a ∷ cs) h =
    let k = both (not (is_hex a)) (all_plain (a ∷ cs)) h in
    record { spelled = k.1; full = refl; other = not_both is_hex a (not-true (is_hex a) k.0) }

module _ (s : Bytes) where
  -- `match_integer` finds the longest run of digits.
  pub integer_right : (i : ℕ) → Right (At s integer i) (match_integer s i)
  unfolding match_integer
  integer_right i = plus_right s is_digit i

  -- `match_xinteger` finds the longest integer with a letter for its base.
  pub xinteger_right : (i : ℕ) → Right (At s xinteger i) (match_xinteger s i)
  unfolding match_xinteger mem_cp
  xinteger_right i =
      let l : ℕ → ℕ → Bool = λ a b. byte_has (two a b) s (i + 1) in
      let e : i + 2 ≡ i + 1 + 1 = omega arith in
      right_letter s {Q = At s (alt (based "xX" is_hex) octal_or_binary)} (ch "0") (omega arith) i (i + 1) refl λ _.
      right_branch _ _ (l (ch "x") (ch "X"))
      (right_two s (ch "x") (ch "X") (omega arith) (omega arith) (i + 1) (i + 2) e (plus_right s is_hex (i + 2)))
      (two_else s (ch "x") (ch "X") (omega arith) (omega arith) octal_or_binary refl refl (i + 1))
      (right_branch _ _ (l (ch "o") (ch "O"))
      (right_two s (ch "o") (ch "O") (omega arith) (omega arith) (i + 1) (i + 2) e (plus_right s (between (ch "0") (ch "7")) (i + 2)))
      (two_else s (ch "o") (ch "O") (omega arith) (omega arith) binary refl refl (i + 1))
      (right_else _ (l (ch "b") (ch "B"))
      (right_two s (ch "b") (ch "B") (omega arith) (omega arith) (i + 1) (i + 2) e (bits (i + 2)))))
    where
      bits : (j : ℕ) → Right (At s (at_least_one (one_of "01")) j) (plus (two (ch "0") (ch "1")) s j)
      bits j =
          subst (λ (p : ℕ → Bool). Right (At s (at_least_one (chr p)) j) (plus (two (ch "0") (ch "1")) s j)) (two_listed (ch "0") (ch "1"))
          (plus_right s (two (ch "0") (ch "1")) j)

  -- The later of the two is the longest integer of either kind.
  pub any_integer_right : (i : ℕ) → Right (At s any_integer i) (max_list (any_integer_ends s i))
  unfolding any_integer_ends
  any_integer_right i = right_max (integer_right i) (xinteger_right i)

  -- ---- what is after them

  -- After the lesser of two ends of an integer stands a hexadecimal digit.
  integer_continues : (i : ℕ) → Continues s is_hex (At s integer i)
  integer_continues i = run_continues s is_hex is_digit digit_hex i

  -- The same holds of digits after a letter.
  based_continues : (letters : String) (q : ℕ → Bool) → ((c : ℕ) → q c ≡ true → is_hex c ≡ true) → (i : ℕ) → Continues s is_hex (At s (based letters q) i)
  based_continues letters q f i = then_continues s is_hex (single_parted (At s (at_least_one (chr q))) (step_single s)) (run_continues s is_hex q f)

  -- So it holds of an integer with a letter.
  xinteger_continues : (i : ℕ) → Continues s is_hex (At s xinteger i)
  unfolding mem_cp is_hex is_digit
  xinteger_continues i =
      then_continues s is_hex (single_parted (At s (alt (based "xX" is_hex) octal_or_binary)) (at_single s (text "0") i refl)) λ m.
      alt_continues s is_hex (based_continues "xX" is_hex (λ c t. t) m)
      (alt_continues s is_hex (based_continues "oO" (between (ch "0") (ch "7")) octal_hex m)
      (based_continues "bB" (λ c. mem_cp c (codes "01")) (listed_passes is_hex (codes "01") refl) m)
      (λ j k. apart s (based "oO" (between (ch "0") (ch "7"))) binary m j k refl refl (none_listed (codes "oO") (starts binary) refl)))
      (λ j k. apart s (based "xX" is_hex) octal_or_binary m j k refl refl (none_listed (codes "xX") (starts octal_or_binary) refl))

  -- So what begins with no hexadecimal digit is found after the greatest end of either kind.
  after_right : (q : Re) → nullable q ≡ false → ((c : ℕ) → is_hex c ≡ true → starts q c ≡ true → ⊥) → {g : ℕ → Option ℕ} → ((j : ℕ) → Right (At s q j) (g j))
      → (i : ℕ) → Right (At s (seq any_integer q) i) (max_list (map (λ m. m then g) (any_integer_ends s i)))
  unfolding any_integer_ends
  after_right q full other h i =
      right_map apart_to together
      (right_max
      (continues_then s is_hex (integer_continues i) q full other (integer_right i) h)
      (continues_then s is_hex (xinteger_continues i) q full other (xinteger_right i) h))
    where
      together : (e : ℕ) → At s (seq any_integer q) i e → At s (seq integer q) i e ⊎ At s (seq xinteger q) i e
      together e (m, inl a, b) = inl (m, a, b)
      together e (m, inr a, b) = inr (m, a, b)

      apart_to : (e : ℕ) → At s (seq integer q) i e ⊎ At s (seq xinteger q) i e → At s (seq any_integer q) i e
      apart_to e (inl (m, a, b)) = (m, inl a, b)
      apart_to e (inr (m, a, b)) = (m, inr a, b)

  -- `match_int_suffix` finds an integer with a suffix.
  pub suffix_right : (w : String) → suffix_like (codes w) ≡ true → (i : ℕ) → Right (At s (suffixed w) i) (match_int_suffix s i (cps w))
  unfolding match_int_suffix
  suffix_right w h i = let k = suffix_is (codes w) h in after_right (text w) k.full k.other (text_right s w k.spelled) i

  -- `match_int_usuffix` finds one with a suffix after a u.
  pub usuffix_right : (w : String) → all_plain (codes w) ≡ true → (i : ℕ) → Right (At s (usuffixed w) i) (match_int_usuffix s i (cps w))
  unfolding match_int_usuffix mem_cp is_hex is_digit
  usuffix_right w h i =
      after_right (seq (one_of "uU") (text w)) refl (λ c t e. none_listed (codes "uU") is_hex refl c e t)
      (λ j. right_two s (ch "u") (ch "U") (omega arith) (omega arith) j (j + 1) refl (text_right s w h (j + 1))) i
