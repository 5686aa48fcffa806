-- A line end and a character literal: what each matcher finds is the longest end of its pattern. Rests on the shapes.
use Rattle.std.specs.Prelude.{Option, Some, None}
use Prim.Native.Nat.{ℕ, ◌+◌, ◌≤◌}
use mathlib.Core.Path.{◌≡◌, refl, sym, ap, subst, ◌∙◌}
use mathlib.Core.Bool.{Bool, true, false, not, ◌&&◌, ◌||◌, false≢true}
use mathlib.Core.List.{List}
use mathlib.Core.Logic.{inl, inr}
use native.Mathlib.Omega.{arith}
use lib.Dec.{eqb}
use borrow.Author.Tests.{eqb-true, not-true}
use Rattle.definition.specs.Basics.{Bytes, ch, codes, mem_cp}
use Rattle.definition.specs.Utf8.{sequence_at}
use Rattle.definition.specs.Text.{with_char, char_has, byte_has, byte_is}
use Rattle.definition.specs.Chars.{is_hex, is_newline_char}
use Rattle.definition.specs.Matchers.{only, one, match_newline, match_escape, match_char, match_char_lit}
use Rattle.definition.specs.Regex.{Re, chr, seq, alt}
use Rattle.definition.specs.Patterns.{text, nl, escape_char, any_char}
use Rattle.definition.specs.declared.Sequence.{Sequence}
use Rattle.definition.specs.declared.Sequence.TheVariants.{Char, Bad, End}
use Rattle.lemmas.proofs.Cases.{by_test, both, either}
use Rattle.laws_progress.proofs.Matches.{small_is, small_mem, small_hex}
use Rattle.laws_longest.proofs.Language.{Step, At}
use Rattle.laws_longest.proofs.Ends.{Right, Single, right_to, right_nothing, right_map, right_both, right_else, right_elim, right_if, right_then, Then, single_then, single_alt}
use Rattle.laws_longest.proofs.Starts.{step_same, step_code, at_single, at_first, at_ahead, apart}
use Rattle.laws_longest.proofs.Shapes.{byte_step, byte_right, has_byte, one_right, step_single, right_here, right_byte, right_has, right_letter}

-- A character that a test doesn't pass is none that passes it.
pub not_both : (p : ℕ → Bool) (a : ℕ) → p a ≡ false → (c : ℕ) → p c ≡ true → eqb c a ≡ true → ⊥
not_both p a n c t e = false≢true (sym n ∙ ap p (sym (eqb-true c a e)) ∙ t)

-- Where a test passes, what it finds is there.
found : {P : ℕ → Type 0} {e : ℕ} (t : Bool) → Right P (only t (Some e)) → t ≡ true → P e
found {e = e} true r q = r.fits e refl
found false r q = absurd (false≢true q)

module _ (s : Bytes) where
  -- ---- line ends

  -- A carriage return and a line feed are found by their two tests.
  return_feed : (i : ℕ) → Right (At s (text "\r\n") i) (only (char_has (λ c. eqb c (ch "\r")) s i && byte_is (ch "\n") s (i + 1)) (Some (i + 2)))
  return_feed i =
      right_both (Some (i + 2)) (char_has (λ c. eqb c (ch "\r")) s i) (byte_is (ch "\n") s (i + 1))
      (right_has s (small_is (ch "\r") (omega arith)) i (i + 1) refl λ _.
      right_byte s (small_is (ch "\n") (omega arith)) (i + 1) (i + 2) (omega arith) λ _. right_here s)

  -- `match_newline` finds the longest line end, of two characters or of one.
  pub newline_right : (i : ℕ) → Right (At s nl i) (match_newline s i)
  unfolding match_newline
  newline_right i =
      let t : Bool = char_has (λ c. eqb c (ch "\r")) s i && byte_is (ch "\n") s (i + 1) in
      right_elim (Some (i + 2)) (one is_newline_char s i) t (right_if t (return_feed i) one_byte (one_right s is_newline_char i))
    where
      one_byte : char_has (λ c. eqb c (ch "\r")) s i && byte_is (ch "\n") s (i + 1) ≡ true → (k : ℕ) → Step s is_newline_char i k → k ≤ i + 2
      one_byte t k h =
          let c : char_has (λ c. eqb c (ch "\r")) s i ≡ true = (both _ _ t).0 in
          let f = byte_step s (small_is (ch "\r") (omega arith)) i (sym (has_byte s (small_is (ch "\r") (omega arith)) i) ∙ c) in
          omega (arith, (step_same f h).0)

  -- ---- characters between quotes

  -- The letters that an escape may have.
  abbrev letters : List ℕ
  letters = codes "\\\"'bfntrv0"

  -- An x and two hexadecimal digits.
  abbrev short : Re
  short = seq (text "x") (seq (chr is_hex) (chr is_hex))

  -- A u and four.
  abbrev long : Re
  long = seq (text "u") (seq (chr is_hex) (seq (chr is_hex) (seq (chr is_hex) (chr is_hex))))

  -- No letter is an x or a u.
  letter_or : (c : ℕ) → mem_cp c letters ≡ true → eqb c (ch "x") || eqb c (ch "u") ≡ true → ⊥
  unfolding mem_cp
  letter_or c t e = either (eqb c (ch "x")) (eqb c (ch "u")) (not_both (λ c. mem_cp c letters) (ch "x") refl c t) (not_both (λ c. mem_cp c letters) (ch "u") refl c t) e

  -- No x is a u.
  x_or_u : (c : ℕ) → eqb c (ch "x") ≡ true → eqb c (ch "u") ≡ true → ⊥
  x_or_u = not_both (λ c. eqb c (ch "x")) (ch "u") refl

  -- A letter excludes the two ways to give a number.
  letter_apart : (i j k : ℕ) → Step s (λ c. mem_cp c letters) i j → At s (alt short long) i k → ⊥
  letter_apart i j k a b = apart s (chr (λ c. mem_cp c letters)) (alt short long) i j k refl refl letter_or a b

  -- These exclude each other.
  short_apart : (i j k : ℕ) → At s short i j → At s long i k → ⊥
  short_apart i j k a b = apart s short long i j k refl refl x_or_u a b

  -- An escape ends in one place.
  escape_single : (i : ℕ) → Single (At s escape_char i)
  escape_single i =
      single_then (at_single s (text "\\") i refl) (λ j.
      single_alt (step_single s) (single_alt (at_single s short j refl) (at_single s long j refl) (short_apart j)) (letter_apart j))

  -- A hexadecimal digit at j is found first, and then what a matcher finds after it.
  hex_then : {Q : ℕ → ℕ → Type 0} {m : Option ℕ} (j k : ℕ) → k ≡ j + 1 → Right (Q k) m → Right (Then (Step s is_hex j) Q) (only (byte_has is_hex s j) m)
  hex_then j k e h = right_byte s small_hex j k e (λ _. h)

  -- The last digit is found by its test.
  hex_last : (j k : ℕ) → k ≡ j + 1 → Right (Step s is_hex j) (only (byte_has is_hex s j) (Some k))
  hex_last j k e = subst (λ (x : ℕ). Right (Step s is_hex j) (only (byte_has is_hex s j) (Some x))) (sym e) (byte_right s small_hex j)

  module _ (i : ℕ) where
    -- A test for a hexadecimal digit, so many bytes on.
    abbrev hex : ℕ → Bool
    hex k = byte_has is_hex s (i + k)

    -- A letter after the backslash is found by its test.
    letter_right : Right (Step s (λ c. mem_cp c letters) (i + 1)) (only (byte_has (λ c. mem_cp c letters) s (i + 1)) (Some (i + 2)))
    letter_right =
        let e : i + 1 + 1 ≡ i + 2 = omega arith in
        subst (λ (x : ℕ). Right (Step s (λ c. mem_cp c letters) (i + 1)) (only (byte_has (λ c. mem_cp c letters) s (i + 1)) (Some x))) e
        (byte_right s (small_mem letters refl) (i + 1))

    -- An x and two digits are found by their tests.
    short_right : Right (At s short (i + 1)) (only (byte_is (ch "x") s (i + 1) && (hex 2 && hex 3)) (Some (i + 4)))
    short_right =
        right_both (Some (i + 4)) (byte_is (ch "x") s (i + 1)) (hex 2 && hex 3)
        (right_letter s (ch "x") (omega arith) (i + 1) (i + 2) (omega arith) λ _.
        right_both (Some (i + 4)) (hex 2) (hex 3)
        (hex_then (i + 2) (i + 3) (omega arith) (hex_last (i + 3) (i + 4) (omega arith))))

    -- A u and four digits are found by theirs.
    long_right : Right (At s long (i + 1)) (only (byte_is (ch "u") s (i + 1) && (hex 2 && (hex 3 && (hex 4 && hex 5)))) (Some (i + 6)))
    long_right =
        right_both (Some (i + 6)) (byte_is (ch "u") s (i + 1)) (hex 2 && (hex 3 && (hex 4 && hex 5)))
        (right_letter s (ch "u") (omega arith) (i + 1) (i + 2) (omega arith) λ _.
        right_both (Some (i + 6)) (hex 2) (hex 3 && (hex 4 && hex 5))
        (hex_then (i + 2) (i + 3) (omega arith)
        (right_both (Some (i + 6)) (hex 3) (hex 4 && hex 5)
        (hex_then (i + 3) (i + 4) (omega arith)
        (right_both (Some (i + 6)) (hex 4) (hex 5)
        (hex_then (i + 4) (i + 5) (omega arith) (hex_last (i + 5) (i + 6) (omega arith))))))))

    -- `match_escape` finds the end of an escape.
    escape_right : Right (At s escape_char i) (match_escape s i)
    unfolding match_escape
    escape_right =
        let a : Bool = byte_has (λ c. mem_cp c letters) s (i + 1) in
        let b : Bool = byte_is (ch "x") s (i + 1) && (hex 2 && hex 3) in
        let c : Bool = byte_is (ch "u") s (i + 1) && (hex 2 && (hex 3 && (hex 4 && hex 5))) in
        right_letter s (ch "\\") (omega arith) i (i + 1) refl λ _.
        right_if a letter_right (λ t k h. absurd (letter_apart (i + 1) (i + 2) k (found a letter_right t) h))
        (right_if b short_right (λ t k h. absurd (short_apart (i + 1) (i + 4) k (found b short_right t) h))
        (right_else (Some (i + 6)) c long_right))

    -- `match_char` finds the end of a character or an escape.
    char_right : Right (At s any_char i) (match_char s i)
    unfolding match_char
    char_right = go (sequence_at s i) refl
      where
        escapes : {c w : ℕ} → sequence_at s i ≡ Char c w → (k : ℕ) → At s escape_char i k → eqb c (ch "\\") ≡ true
        escapes q k h = (step_code q (at_first s escape_char i k h (at_ahead s escape_char i k refl h)).1).1

        none : ((c w : ℕ) → sequence_at s i ≡ Char c w → ⊥) → Right (At s any_char i) None
        none n = right_nothing (λ k h. let x = (at_first s any_char i k h (at_ahead s any_char i k refl h)).1 in n x.code x.width x.read)

        go : (q : Sequence) → sequence_at s i ≡ q
            → Right (At s any_char i) (with_char q i (λ c j. elim (eqb c (ch "\\")) [ true ↦ match_escape s i | false ↦ Some j ]) None)
        go (Char c w) q =
            by_test (Right (At s any_char i)) (eqb c (ch "\\"))
            (λ t. right_map (λ e h. inr h) (λ e. other e t) escape_right)
            (λ t. right_to (inl (record { code = c; width = w; read = q; ends = refl; passes = ap not t })) (λ k. same k t))
          where
            other : (e : ℕ) → eqb c (ch "\\") ≡ true → At s any_char i e → At s escape_char i e
            other e t (inl h) = absurd (false≢true (sym (not-true _ (step_code q h).1) ∙ t))
            other e t (inr h) = h

            same : (k : ℕ) → eqb c (ch "\\") ≡ false → At s any_char i k → k ≤ i + w
            same k t (inl h) = omega (arith, (step_code q h).0)
            same k t (inr h) = absurd (false≢true (sym t ∙ escapes q k h))
        go Bad q = none (λ c w r. let z : ◌≡◌ {A = ℕ} 0 1 = cc in omega arith)
        go End q = none (λ c w r. let z : ◌≡◌ {A = ℕ} 0 1 = cc in omega arith)

  -- A character ends in one place.
  char_single : (i : ℕ) → Single (At s any_char i)
  char_single i =
      single_alt (step_single s) (escape_single i)
      (λ j k a b. apart s (chr (λ c. not (eqb c (ch "\\")))) escape_char i j k refl refl (λ c t e. false≢true (sym (not-true _ t) ∙ e)) a b)

  -- `match_char_lit` finds the end of a character between quotes.
  pub char_lit_right : (i : ℕ) → Right (At s (seq (text "'") (seq any_char (text "'"))) i) (match_char_lit s i false)
  unfolding match_char_lit
  char_lit_right i =
      right_letter s (ch "'") (omega arith) i (i + 1) refl λ _.
      right_then (char_single (i + 1)) (char_right (i + 1)) λ j _.
      right_byte s (small_is (ch "'") (omega arith)) j (j + 1) refl λ _. right_here s

  -- It finds the end of one with a B after it, too.
  pub byte_lit_right : (i : ℕ) → Right (At s (seq (text "'") (seq any_char (text "'B"))) i) (match_char_lit s i true)
  unfolding match_char_lit
  byte_lit_right i =
      right_letter s (ch "'") (omega arith) i (i + 1) refl λ _.
      right_then (char_single (i + 1)) (char_right (i + 1)) λ j _.
      right_byte s (small_is (ch "'") (omega arith)) j (j + 1) refl λ _.
      right_byte s (small_is (ch "B") (omega arith)) (j + 1) (j + 2) (omega arith) λ _. right_here s
