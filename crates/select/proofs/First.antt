-- The first character decides which places need be tried: a place whose pattern can't begin with it finds nothing. Rests on the law of the
-- longest match, which says of each place that its pattern permits what it finds, and on the first characters of the patterns, which are
-- computed.
use Prim.Native.Nat.{ℕ, zero, suc, ◌+◌, ◌≤◌, ◌<◌}
use mathlib.Core.Path.{◌≡◌, refl, sym, ap, subst, ◌∙◌}
use mathlib.Core.Bool.{Bool, true, false, not, ◌&&◌, ◌||◌, false≢true}
use mathlib.Core.List.{List, [], ◌∷◌}
use native.Mathlib.Omega.{arith}
use lib.ListN.{get_or}
use borrow.Author.Tests.{le-ltb, not-true}
use Rattle.definition.specs.Basics.{Bytes, mem_cp}
use Rattle.definition.specs.Utf8.{sequence_at}
use Rattle.definition.specs.Text.{char_has}
use Rattle.definition.specs.Chars.{is_anywhite}
use Rattle.definition.specs.Matchers.{plus, match_newline}
use Rattle.definition.specs.Select.{none_at, keep, found, try_all, places, select}
use Rattle.definition.specs.Regex.{Re, never}
use Rattle.definition.specs.Patterns.{patterns, pattern}
use Rattle.definition.specs.declared.Choice.{Choice}
use Rattle.definition.specs.declared.Sequence.TheVariants.{Char}
use Rattle.lemmas.proofs.Cases.{by_order, by_test, by_if_lt, both, either}
use Rattle.lemmas.proofs.Each.{Numbered, no_more, ◌⨟◌}
use Rattle.utf8.proofs.Reading.{NoChar, with_none}
use Rattle.laws_longest.proofs.Starts.{starts, at_first, step_code}
use Rattle.laws_longest.proofs.Places.{white_fast, line_fast, Slow, Has, Place, right_one, special, all_places, has_read}
use Rattle.laws_longest.proofs.Numbers.{numbers}

-- ---- the choice among some of the places

-- Of places numbered from n on, those whose number is in a list.
abbrev pub those : List ℕ → ℕ → List Choice → List Choice
those ks n [] = []
those ks n (p ∷ ps) = elim (mem_cp n ks) [ true ↦ p ∷ those ks (suc n) ps | false ↦ those ks (suc n) ps ]

-- What is kept is no shorter than the best before.
pub keep_forward : (b p : Choice) → b.end ≤ (keep b p).end
unfolding keep
keep_forward b p = by_if_lt (λ (x : Choice). b.end ≤ x.end) b.end p.end (λ l. omega arith) (λ l. omega arith)

-- A choice that is no longer than the best leaves the best.
pub keep_best : (b p : Choice) → p.end ≤ b.end → keep b p ≡ b
unfolding keep
keep_best b p h = rw (le-ltb b.end p.end h)

-- Where every other place finds nothing past i, those places decide.
those_decide : (ks : List ℕ) (i : ℕ) {P : ℕ → Choice → Type 0} → ((k : ℕ) (p : Choice) → P k p → mem_cp k ks ≡ false → p.end ≤ i)
    → {n : ℕ} {ps : List Choice} → Numbered P n ps → (b : Choice) → i ≤ b.end → try_all ps b ≡ try_all (those ks n ps) b
unfolding try_all
those_decide ks i others no_more b h = refl
those_decide ks i others {n} {ps = p ∷ ps} (q ⨟ qs) b h =
    by_test (λ (l : List Choice). try_all ps (keep b p) ≡ try_all l b) (mem_cp n ks)
    (λ _. those_decide ks i others qs (keep b p) (omega (arith, keep_forward b p)))
    (λ m. ap (try_all ps) (keep_best b p (omega (arith, others n p q m))) ∙ those_decide ks i others qs b h)

-- ---- first characters

-- Of expressions numbered from n on, only those whose number is in a list may begin with c.
abbrev only_those : List ℕ → ℕ → List Re → ℕ → Bool
only_those ks n [] c = true
only_those ks n (r ∷ rs) c = (mem_cp n ks || not (starts r c)) && only_those ks (suc n) rs c

-- Then no other begins with c.
others_not : (ks : List ℕ) (n : ℕ) (rs : List Re) (c : ℕ) → only_those ks n rs c ≡ true → (j : ℕ) → mem_cp (n + j) ks ≡ false → starts (get_or rs j never) c ≡ false
others_not ks n [] c h j m = refl
others_not ks n (r ∷ rs) c h zero m =
    let z : n + 0 ≡ n = omega arith in
    either (mem_cp n ks) (not (starts r c)) (λ t. absurd (false≢true (sym m ∙ ap (λ k. mem_cp k ks) z ∙ t))) (not-true (starts r c))
    (both (mem_cp n ks || not (starts r c)) (only_those ks (suc n) rs c) h).0
others_not ks n (r ∷ rs) c h (suc j) m =
    let z : suc n + j ≡ n + suc j = omega arith in
    others_not ks (suc n) rs c (both (mem_cp n ks || not (starts r c)) (only_those ks (suc n) rs c) h).1 j (ap (λ k. mem_cp k ks) z ∙ m)

-- No fast path is taken at c, and only the places of a list may begin with it.
unfoldable pub begins : Bytes → List ℕ → ℕ → Bool
begins f ks c = not (white_fast c) && (not (line_fast c) && only_those ks 0 (never ∷ patterns f) c)

-- The choice among the places of a list.
unfoldable pub among : List ℕ → Bytes → Bytes → ℕ → Choice
among ks s f i = try_all (those ks 1 (places s f i)) (none_at i)

module _ (s f : Bytes) (i : ℕ) where
  -- What a place finds its pattern permits.
  place_fits : Slow s i → {k : ℕ} {p : Choice} → Place s f i k p → i < p.end → Has s f i k p.end
  place_fits h (right_one p) l = (p.fits l).1
  place_fits h (special _ p) l = ((p h).fits l).1

  -- Where a character stands with which a pattern can't begin, its place finds nothing.
  finds_none : Slow s i → (c w : ℕ) → sequence_at s i ≡ Char c w → (k : ℕ) (p : Choice) → Place s f i k p → starts (pattern f k) c ≡ false → p.end ≤ i
  finds_none h c w q k p a n =
      by_order i p.end
      (λ l. absurd (false≢true (sym n ∙ (step_code q (at_first s (pattern f k) i p.end (place_fits h a l) l).1).1)))
      (λ l. l)

  -- Where neither fast path is taken, all places are tried.
  slow_path : Slow s i → select s f i ≡ try_all (places s f i) (none_at i)
  unfolding select
  slow_path h =
      by_test (λ (x : Choice). x ≡ try_all (places s f i) (none_at i)) (char_has white_fast s i) (λ e. absurd (false≢true (sym h.no_white ∙ e))) λ _.
      by_test (λ (x : Choice). x ≡ try_all (places s f i) (none_at i)) (char_has line_fast s i) (λ e. absurd (false≢true (sym h.no_line ∙ e))) λ _. refl

  -- Where neither fast path is taken, the places of a list decide if only they may begin with the character.
  slow_among : Slow s i → (ks : List ℕ) (c w : ℕ) → sequence_at s i ≡ Char c w → only_those ks 0 (never ∷ patterns f) c ≡ true
      → try_all (places s f i) (none_at i) ≡ among ks s f i
  unfolding pattern places among
  slow_among h ks c w q t =
      those_decide ks i
      (λ k p a m. let z : 0 + k ≡ k = omega arith in
      finds_none h c w q k p a (others_not ks 0 (never ∷ patterns f) c t k (ap (λ x. mem_cp x ks) z ∙ m)))
      (all_places s f i (numbers s f i)) (none_at i) (omega arith)

  -- The fast path of white space,
  pub white_path : char_has white_fast s i ≡ true → select s f i ≡ found i 7 0 (plus (is_anywhite f) s i)
  unfolding select
  white_path t = by_test (λ (x : Choice). x ≡ found i 7 0 (plus (is_anywhite f) s i)) (char_has white_fast s i) (λ _. refl) (λ e. absurd (false≢true (sym e ∙ t)))

  -- and that of line ends.
  pub line_path : char_has white_fast s i ≡ false → char_has line_fast s i ≡ true → select s f i ≡ found i 8 0 (match_newline s i)
  unfolding select
  line_path n t =
      by_test (λ (x : Choice). x ≡ found i 8 0 (match_newline s i)) (char_has white_fast s i) (λ e. absurd (false≢true (sym n ∙ e))) λ _.
      by_test (λ (x : Choice). x ≡ found i 8 0 (match_newline s i)) (char_has line_fast s i) (λ _. refl) (λ e. absurd (false≢true (sym e ∙ t)))

  -- Where no character stands, no place finds anything.
  pub select_none : NoChar (sequence_at s i) → select s f i ≡ none_at i
  unfolding places char_has try_all mem_cp
  select_none h =
      let slow : Slow s i = record { no_white = with_none (sequence_at s i) i _ false h; no_line = with_none (sequence_at s i) i _ false h } in
      slow_path slow
      ∙ those_decide [] i
      (λ k p a _. by_order i p.end
      (λ l. absurd (subst NoChar (at_first s (pattern f k) i p.end (place_fits slow a l) l).1.read h))
      (λ l. l))
      (all_places s f i (numbers s f i)) (none_at i) (omega arith)

  -- The places of a list decide what `select` chooses at a character with which only they may begin.
  pub select_among : (ks : List ℕ) (c w : ℕ) → sequence_at s i ≡ Char c w → begins f ks c ≡ true → select s f i ≡ among ks s f i
  unfolding begins
  select_among ks c w q t =
      let a = both (not (white_fast c)) _ t in
      let b = both (not (line_fast c)) _ a.1 in
      let slow : Slow s i = record {
        no_white = has_read white_fast s i c w q ∙ not-true (white_fast c) a.0;
        no_line = has_read line_fast s i c w q ∙ not-true (line_fast c) b.0;
      } in
      slow_path slow ∙ slow_among slow ks c w q b.1
