-- Line ends, and a character with a run after it, by what stands at the offset. Rests on the laws of one character.
use Rattle.std.specs.Prelude.{Option, Some, None}
use Prim.Native.Nat.{ℕ, ◌+◌}
use mathlib.Core.Path.{◌≡◌, refl, sym, ap, ◌∙◌}
use mathlib.Core.Bool.{Bool, true, false, ◌&&◌}
use lib.Dec.{eqb}
use borrow.Author.Tests.{eq-eqb, ne_eqb}
use Rattle.definition.specs.Basics.{Bytes, ch}
use Rattle.definition.specs.Utf8.{sequence_at}
use Rattle.definition.specs.Text.{with_char, char_has, byte_is, star}
use Rattle.definition.specs.Chars.{is_newline_char}
use Rattle.definition.specs.Matchers.{◌then◌, one, match_newline}
use Rattle.definition.specs.declared.Sequence.{Sequence}
use Rattle.definition.specs.declared.Sequence.TheVariants.{Char}
use Rattle.utf8.proofs.Reading.{with_none}
use Rattle.star.proofs.RunLaws.{one_yes, one_no, one_other, no_char}

-- ---- a character that passes a test, and a run over another

module _ (p q : ℕ → Bool) (s : Bytes) (i : ℕ) where
  -- A character that passes leads to the end of the run after it.
  pub head_yes : {c w e : ℕ} → sequence_at s i ≡ Char c w → p c ≡ true → e ≡ star q s (i + w) → Some e ≡ (one p s i then λ j. Some (star q s j))
  head_yes h t e = ap Some e ∙ ap (λ (m : Option ℕ). m then λ j. Some (star q s j)) (sym (one_yes p s i h t))

  -- One that doesn't leads nowhere.
  pub head_no : {c w : ℕ} → sequence_at s i ≡ Char c w → p c ≡ false → None ≡ (one p s i then λ j. Some (star q s j))
  head_no h t = ap (λ (m : Option ℕ). m then λ j. Some (star q s j)) (sym (one_no p s i h t))

  -- Nor does no character.
  pub head_other : {t : Sequence} → t ≡ sequence_at s i → ((c w : ℕ) → t ≡ Char c w → ⊥) → None ≡ (one p s i then λ j. Some (star q s j))
  head_other e h = ap (λ (m : Option ℕ). m then λ j. Some (star q s j)) (sym (one_other p s i e h))

-- ---- line ends

-- Nothing passes with what fails.
pub and_false : (a : Bool) → a && false ≡ false
and_false true = refl
and_false false = refl

module _ (s : Bytes) (i : ℕ) where
  -- What is not CR LF is one character.
  single : char_has (λ c. eqb c (ch "\r")) s i && byte_is (ch "\n") s (i + 1) ≡ false → match_newline s i ≡ one is_newline_char s i
  unfolding match_newline
  single e = rw (e, match_newline)

  -- The test for CR sees nothing but what stands at the offset.
  return_of : {t : Sequence} → sequence_at s i ≡ t → char_has (λ c. eqb c (ch "\r")) s i ≡ with_char t i (λ c j. eqb c (ch "\r")) false
  unfolding char_has
  return_of e = ap (λ (t : Sequence). with_char t i (λ c j. eqb c (ch "\r")) false) e

  -- A character other than CR is one character.
  pub not_return : {c w : ℕ} → sequence_at s i ≡ Char c w → (c ≡ ch "\r" → ⊥) → match_newline s i ≡ one is_newline_char s i
  not_return {c} e n = single (rw (return_of e, ne_eqb c (ch "\r") n))

  -- So is what has no LF after it.
  pub no_feed : byte_is (ch "\n") s (i + 1) ≡ false → match_newline s i ≡ one is_newline_char s i
  no_feed b = single (rw (b, and_false (char_has (λ c. eqb c (ch "\r")) s i)))

  -- Where no character stands there is no line end.
  pub newline_other : {t : Sequence} → t ≡ sequence_at s i → ((c w : ℕ) → t ≡ Char c w → ⊥) → match_newline s i ≡ None
  newline_other {t} e h =
      let none : char_has (λ c. eqb c (ch "\r")) s i ≡ false = return_of (sym e) ∙ with_none t i _ false (no_char t h) in
      single (rw none) ∙ one_other is_newline_char s i e h

  -- CR with LF after it is one of two characters.
  pub newline_two : {c w : ℕ} → sequence_at s i ≡ Char c w → c ≡ ch "\r" → byte_is (ch "\n") s (i + 1) ≡ true → match_newline s i ≡ Some (i + 2)
  unfolding match_newline
  newline_two {c} e r b =
      let pair : char_has (λ c. eqb c (ch "\r")) s i && byte_is (ch "\n") s (i + 1) ≡ true = rw (return_of e, eq-eqb c (ch "\r") r, b) in
      rw (pair, match_newline)
