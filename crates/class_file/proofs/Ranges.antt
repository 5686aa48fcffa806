-- What an ascending list says of its ranges, and the test `ascending` range by range. It is stated over any list, so the classes of a
-- file and the built-in table share it. Rests on the definition. Assumes nothing.
use Prim.Native.Nat.{ℕ, zero, suc, ◌+◌, ◌≤◌, ◌<◌}
use Rattle.std.specs.Prelude.{map}
use Rattle.std.proofs.lemmas.List.{length-map, get_or-map}
use mathlib.Core.Path.{◌≡◌, refl, sym, ap, ◌∙◌}
use mathlib.Core.Bool.{true, false, ◌&&◌}
use mathlib.Core.List.{List, [], ◌∷◌}
use native.Mathlib.Omega.{arith}
use native.Mathlib.Nat.{le_of_suc-le-suc, not-suc-le-zero}
use native.Mathlib.Numerals.{add-one}
use lib.Dec.{leb}
use lib.ListN.{length, get_or, drop, drop_of_length-le}
use lib.Seq.{drop-cons}
use borrow.Author.Tests.{leb-true, le-leb}
use Rattle.definition.specs.ClassFile.{Range, ascending}
use Rattle.lemmas.proofs.Cases.{never, by_bool}
use Rattle.class_file.specs.Ends.{first_at, last_at}

-- what the test says of the first range of a list, and of the rest
pub record Step (n : ℕ) (r : Range) (rs : List Range) : Type 0 where
  pub on : n ≤ r.0
  pub whole : r.0 ≤ r.1
  pub legal : r.1 ≤ 1114111
  pub rest : ascending (suc r.1) rs ≡ true

-- a list that ascends takes such a step at its first range
pub ascending_step : (n : ℕ) (r : Range) (rs : List Range) → ascending n (r ∷ rs) ≡ true → Step n r rs
unfolding ascending
ascending_step n r rs =
    by_bool (λ t. elim (t && (leb r.0 r.1 && leb r.1 1114111)) [ true ↦ ascending (suc r.1) rs | false ↦ false ] ≡ true → Step n r rs) (leb n r.0)
    (λ p.
    by_bool (λ t. elim (t && leb r.1 1114111) [ true ↦ ascending (suc r.1) rs | false ↦ false ] ≡ true → Step n r rs) (leb r.0 r.1)
    (λ q.
    by_bool (λ t. elim t [ true ↦ ascending (suc r.1) rs | false ↦ false ] ≡ true → Step n r rs) (leb r.1 1114111)
    (λ l e. record { on = leb-true n r.0 p; whole = leb-true r.0 r.1 q; legal = leb-true r.1 1114111 l; rest = e })
    (λ l e. never e))
    (λ q e. never e))
    (λ p e. never e)

-- a list whose first range takes no such step does not ascend
ascending_stuck : (n : ℕ) (r : Range) (rs : List Range) → (Step n r rs → ⊥) → ascending n (r ∷ rs) ≡ false
ascending_stuck n r rs stuck = by_bool (λ t. t ≡ false) (ascending n (r ∷ rs)) (λ e. absurd (stuck (ascending_step n r rs e))) (λ e. refl)

-- ---- the test from range i on, as a loop goes through it

-- the ranges from i on, where there is one, begin with it
ascending_at : (n : ℕ) (rs : List Range) (i : ℕ) → i < length rs → ascending n (drop i rs) ≡ ascending n (get_or rs i (0, 0) ∷ drop (suc i) rs)
ascending_at n rs i h = ap (ascending n) (drop-cons rs i (0, 0) h)

-- range i has this first and this last code point
pub record Reads (rs : List Range) (i first last : ℕ) : Type 0 where
  pub there : i < length rs
  pub is_first : first ≡ first_at rs i
  pub is_last : last ≡ last_at rs i

-- so of the ranges that the elements of a list give
pub reads_at : {X : Type 0} (ends : X → Range) (xs : List X) (i : ℕ) (d : X) (r : Range) → i < length xs → r ≡ ends (get_or xs i d)
    → Reads (map ends xs) i r.0 r.1
reads_at ends xs i d r h e =
    let q : r ≡ get_or (map ends xs) i (0, 0) = e ∙ sym (get_or-map ends xs i d (0, 0) h) in
    record { there = rw length-map h; is_first = ap (λ (p : Range). p.0) q; is_last = ap (λ (p : Range). p.1) q }

module _ (n : ℕ) (rs : List Range) (i first last : ℕ) (r : Reads rs i first last) where
  -- a range that is right leaves those after it
  pub ascending_next : n ≤ first → first ≤ last → last ≤ 1114111 → ascending n (drop i rs) ≡ ascending (last + 1) (drop (i + 1) rs)
  unfolding ascending
  ascending_next p q l =
      let p' : n ≤ first_at rs i = rw r.is_first at p in
      let q' : first_at rs i ≤ last_at rs i = rw (← r.is_first, ← r.is_last) q in
      let l' : last_at rs i ≤ 1114111 = rw r.is_last at l in
      ascending_at n rs i r.there ∙ simp (ascending, le-leb _ _ p', le-leb _ _ q', le-leb _ _ l', add-one, r.is_last)

  -- a range that is wrong fails the test
  pub ascending_fails : (n ≤ first → first ≤ last → last ≤ 1114111 → ⊥) → ascending n (drop i rs) ≡ false
  ascending_fails wrong =
      ascending_at n rs i r.there
      ∙ ascending_stuck n (get_or rs i (0, 0)) (drop (suc i) rs)
      (λ s. wrong (rw r.is_first s.on) (rw (r.is_first, r.is_last) s.whole) (rw r.is_last s.legal))

-- past the last range nothing is left to test
pub ascending_end : (n : ℕ) (rs : List Range) (i : ℕ) → length rs ≤ i → ascending n (drop i rs) ≡ true
unfolding ascending
ascending_end n rs i h = rw (drop_of_length-le rs h)

-- ---- what an ascending list says of its ranges

-- range i begins at n or later, is no empty range and ends at a code point
pub record Legal (n : ℕ) (rs : List Range) (i : ℕ) : Type 0 where
  pub on : n ≤ first_at rs i
  pub whole : first_at rs i ≤ last_at rs i
  pub legal : last_at rs i ≤ 1114111

-- each range of an ascending list is so
pub each_legal : (n : ℕ) (rs : List Range) → ascending n rs ≡ true → (i : ℕ) → i < length rs → Legal n rs i
each_legal n [] up i h = absurd (not-suc-le-zero h)
each_legal n (r ∷ rs) up zero h =
    let s = ascending_step n r rs up in
    record { on = s.on; whole = s.whole; legal = s.legal }
each_legal n (r ∷ rs) up (suc i) h =
    let s = ascending_step n r rs up in
    let l = each_legal (suc r.1) rs s.rest i (le_of_suc-le-suc h) in
    record { on = omega arith; whole = l.whole; legal = l.legal }

-- a range ends before any later one begins
pub apart : (n : ℕ) (rs : List Range) → ascending n rs ≡ true → (i j : ℕ) → i < j → j < length rs → last_at rs i < first_at rs j
apart n [] up i j h l = absurd (not-suc-le-zero l)
apart n (r ∷ rs) up i zero h l = absurd (not-suc-le-zero h)
apart n (r ∷ rs) up zero (suc j) h l =
    (each_legal (suc r.1) rs (ascending_step n r rs up).rest j (le_of_suc-le-suc l)).on
apart n (r ∷ rs) up (suc i) (suc j) h l =
    apart (suc r.1) rs (ascending_step n r rs up).rest i j (le_of_suc-le-suc h) (le_of_suc-le-suc l)
