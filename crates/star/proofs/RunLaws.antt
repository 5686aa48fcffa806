-- One character that passes a test, runs of them, and runs over a test that only ASCII passes, byte by byte. Rests on the laws of `star`
-- and of UTF-8.
use Rattle.std.specs.Prelude.{Option, Some, None}
use Prim.Native.Nat.{ℕ, zero, suc, ◌+◌, ◌≤◌, ◌<◌}
use mathlib.Core.Path.{◌≡◌, refl, sym, ap, subst, ◌∙◌}
use mathlib.Core.Bool.{Bool, true, false, false≢true}
use mathlib.Core.List.{[], ◌∷◌, ◌++◌}
use native.Mathlib.Nat.{add-zero}
use native.Mathlib.Omega.{arith}
use lib.Dec.{ltb, leb}
use lib.ListN.{length, get_or, drop}
use lib.Seq.{get_or-drop}
use borrow.Author.Tests.{le-ltb, leb-false}
use Rattle.definition.specs.Basics.{Bytes}
use Rattle.definition.specs.Utf8.{sequence_at}
use Rattle.definition.specs.Text.{with_char, byte_has, star}
use Rattle.definition.specs.Matchers.{only, one, plus}
use Rattle.definition.specs.declared.Sequence.{Sequence}
use Rattle.definition.specs.declared.Sequence.TheVariants.{Char, Bad, End}
use Rattle.lemmas.proofs.Cases.{tests, by_outcome, by_order}
use Rattle.utf8.proofs.Reading.{read_end, NoChar, with_none}
use Rattle.utf8.proofs.EncodingLaws.{encode_1}
use Rattle.utf8.proofs.Character.{char_read, char_within}
use Rattle.utf8.proofs.Star.{star_on, star_stop, star_none, star_from}
use Rattle.laws_progress.proofs.Characters.{ascii_at}
use Rattle.laws_progress.proofs.Matches.{Small}
use Rattle.laws_progress.proofs.Walks.{byte_passes}
use Rattle.match_lit.proofs.ByteLaws.{has_within, has_past, has_inside}

-- What is neither of the code's other two answers is no character.
pub no_char : (q : Sequence) → ((c w : ℕ) → q ≡ Char c w → ⊥) → NoChar q
no_char (Char c w) h = absurd (h c w refl)
no_char Bad h = tt
no_char End h = tt

module _ (p : ℕ → Bool) (s : Bytes) (i : ℕ) where
  -- ---- one character

  -- One character is what stands at the offset, if that passes.
  pub one_of : {t : Sequence} → sequence_at s i ≡ t → one p s i ≡ with_char t i (λ c j. elim (p c) [ true ↦ Some j | false ↦ None ]) None
  unfolding one
  one_of e = ap (λ (t : Sequence). with_char t i (λ c j. elim (p c) [ true ↦ Some j | false ↦ None ]) None) e

  -- A character that passes is found.
  pub one_yes : {c w : ℕ} → sequence_at s i ≡ Char c w → p c ≡ true → one p s i ≡ Some (i + w)
  one_yes {c} {w} e t = one_of e ∙ rw t

  -- One that doesn't is not.
  pub one_no : {c w : ℕ} → sequence_at s i ≡ Char c w → p c ≡ false → one p s i ≡ None
  one_no {c} {w} e t = one_of e ∙ rw t

  -- Where no character stands none is.
  pub one_none : NoChar (sequence_at s i) → one p s i ≡ None
  unfolding one
  one_none h = with_none (sequence_at s i) i _ None h

  -- Past the end none is.
  pub one_end : length s ≤ i → one p s i ≡ None
  one_end h = one_none (rw (read_end s i h) tt)

  -- Nor is one where the code's answer is no character.
  pub one_other : {q : Sequence} → q ≡ sequence_at s i → ((c w : ℕ) → q ≡ Char c w → ⊥) → one p s i ≡ None
  one_other {q} e h = one_none (subst NoChar e (no_char q h))

  -- ---- runs, by one character

  -- Either a character passes, and the run goes on after it, or the run ends here.
  pub by_one : {X : Type 0}
      → ((k : ℕ) → one p s i ≡ Some k → (i < k) × (k ≤ length s) → star p s i ≡ star p s k → X)
      → (one p s i ≡ None → star p s i ≡ i → X)
      → X
  by_one {X} on stop = go (sequence_at s i) refl
    where
      go : (t : Sequence) → sequence_at s i ≡ t → X
      go (Char c w) e =
          by_outcome (p c)
          (λ t. let h = char_within (char_read e) in on (i + w) (one_yes e t) (omega arith, h.1) (star_on p s i c w e t))
          (λ t. stop (one_no e t) (star_stop p s i c w e t))
      go Bad e = stop (one_none (rw e tt)) (star_none p s i (rw e tt))
      go End e = stop (one_none (rw e tt)) (star_none p s i (rw e tt))

  -- After a character that passes the run goes on.
  pub run_on : {k : ℕ} → one p s i ≡ Some k → star p s i ≡ star p s k
  run_on {k} e =
      by_one
      (λ m d _ q. let z : m ≡ k = cc in rw (← z) q)
      (λ d _. absurd (let z : ◌≡◌ {A = ℕ} 0 1 = cc in omega arith))

  -- That character ends past its start, within the text.
  pub run_past : {k : ℕ} → one p s i ≡ Some k → (i < k) × (k ≤ length s)
  run_past {k} e =
      by_one
      (λ m d h q. let z : m ≡ k = cc in rw (← z) h)
      (λ d _. absurd (let z : ◌≡◌ {A = ℕ} 0 1 = cc in omega arith))

  -- Where none passes the run ends.
  pub run_stop : one p s i ≡ None → star p s i ≡ i
  run_stop e = by_one (λ m d _ q. absurd (let z : ◌≡◌ {A = ℕ} 0 1 = cc in omega arith)) (λ d q. q)

  -- A run of a character or more is the run, if that ends past its start.
  pub plus_is : plus p s i ≡ only (ltb i (star p s i)) (Some (star p s i))
  unfolding plus
  plus_is =
      by_one
      (λ k d h q. let l : i < star p s i = omega (arith, star_from p s k) in rw d (simp tests (ap Some (sym q))))
      (λ d q. let l : star p s i ≤ i = omega arith in rw d (simp tests))

  -- So is what is made of the run's end by that test.
  pub plus_from : {e : ℕ} {r : Option ℕ} → r ≡ only (ltb i e) (Some e) → e ≡ star p s i → r ≡ plus p s i
  plus_from {e} {r} q h = q ∙ ap (λ (k : ℕ). only (ltb i k) (Some k)) h ∙ sym plus_is

-- ---- runs of ASCII, byte by byte

-- A character of ASCII is its own byte.
pub ascii_byte : (s : Bytes) (i : ℕ) {c w : ℕ} → sequence_at s i ≡ Char c w → c < 0x80 → get_or s i 0 ≡ c
ascii_byte s i {c} {w} e h =
    let bytes : drop i s ≡ (c ∷ []) ++ drop (i + w) s = (char_read e).bytes ∙ ap (λ (l : Bytes). l ++ drop (i + w) s) (encode_1 c h) in
    let front : get_or (drop i s) 0 0 ≡ c = ap (λ (l : Bytes). get_or l 0 0) bytes in
    ap (λ (k : ℕ). get_or s k 0) (sym (add-zero i)) ∙ sym (get_or-drop i s 0 0) ∙ front

module _ (p : ℕ → Bool) (small : Small p) (s : Bytes) (i : ℕ) where
  -- A byte that passes is a character that does: the run goes on by one.
  pub byte_on : byte_has p s i ≡ true → star p s i ≡ star p s (i + 1)
  byte_on e =
      let h = has_inside p s i e in
      let t : p (get_or s i 0) ≡ true = sym (has_within p s i h) ∙ e in
      star_on p s i (get_or s i 0) 1 (ascii_at s i h (small (get_or s i 0) t)) t

  -- At a byte that doesn't pass the run ends: of a byte that isn't ASCII no character that passes begins.
  pub byte_stop : byte_has p s i ≡ false → star p s i ≡ i
  byte_stop e = go (sequence_at s i) refl
    where
      go : (t : Sequence) → sequence_at s i ≡ t → star p s i ≡ i
      go (Char c w) q = by_outcome (p c) (λ t. absurd (passes t)) (λ t. star_stop p s i c w q t)
        where
          passes : p c ≡ true → ⊥
          passes t =
              let h = char_within (char_read q) in
              let same : get_or s i 0 ≡ c = ascii_byte s i q (small c t) in
              let yes : byte_has p s i ≡ true = has_within p s i (omega arith) ∙ rw same t in
              false≢true (sym e ∙ yes)
      go Bad q = star_none p s i (rw q tt)
      go End q = star_none p s i (rw q tt)

  -- Nor does a run of a character or more begin there.
  pub plus_stop : byte_has p s i ≡ false → plus p s i ≡ None
  plus_stop e = rw (plus_is p s i, byte_stop e, le-ltb i i (omega arith))

-- ---- runs that pass ASCII by bytes

-- Of ASCII, q passes what p does, and nothing else.
module _ {p q : ℕ → Bool} (small : Small q) (agree : (c : ℕ) → c < 0x80 → p c ≡ q c) (s : Bytes) where
  -- What passes q is passed over.
  pub ascii_on : (j : ℕ) → byte_has q s j ≡ true → star p s j ≡ star p s (j + 1)
  ascii_on j t =
      let b = byte_passes q s j t in
      let c = get_or s j 0 in
      run_on p s j (one_yes p s j (ascii_at s j b.0 (small c b.1)) (agree c (small c b.1) ∙ b.1))

  -- At another character of ASCII, and at the text's end, the run ends.
  pub ascii_stops : (j : ℕ) → byte_has q s j ≡ false → byte_has (λ b. leb 0x80 b) s j ≡ false → star p s j ≡ j
  ascii_stops j t u =
      by_order j (length s)
      (λ l.
      let c = get_or s j 0 in
      let below = leb-false 0x80 c (sym (has_within (λ b. leb 0x80 b) s j l) ∙ u) in
      run_stop p s j (one_no p s j (ascii_at s j l below) (agree c below ∙ sym (has_within q s j l) ∙ t)))
      (λ l. run_stop p s j (one_end p s j l))

  -- The run over q is the beginning of the run over p, and ends where no byte passes q.
  ascii_part : (n i : ℕ) → length s ≤ i + n → (star p s (star q s i) ≡ star p s i) × (byte_has q s (star q s i) ≡ false)
  ascii_part zero i h =
      let e = has_past q s i (omega arith) in
      let stop = byte_stop q small s i e in
      (ap (star p s) stop, rw stop e)
  ascii_part (suc n) i h =
      by_outcome (byte_has q s i)
      (λ e.
      let on = byte_on q small s i e in
      let rest = ascii_part n (i + 1) (omega arith) in
      (rw on (rest.0 ∙ sym (ascii_on i e)), rw on rest.1))
      (λ e. let stop = byte_stop q small s i e in (ap (star p s) stop, rw stop e))

  module _ (i : ℕ) where
    -- After the run over q the run over p goes on where it does from i;
    pub ascii_rest : star p s (star q s i) ≡ star p s i
    ascii_rest = (ascii_part (length s) i (omega arith)).0

    -- it ends there if what stands there isn't beyond ASCII.
    pub ascii_end : byte_has (λ b. leb 0x80 b) s (star q s i) ≡ false → star q s i ≡ star p s i
    ascii_end u = sym (ascii_stops (star q s i) (ascii_part (length s) i (omega arith)).1 u) ∙ ascii_rest
