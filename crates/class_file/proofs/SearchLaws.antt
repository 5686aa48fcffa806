-- The search among the ranges of an ascending list: what each step of it leaves, and that its answer is the only range
-- that can hold the code point. It is stated over any list, so the classes of a file and the built-in table share it.
-- Rests on what an ascending list says of its ranges. Assumes nothing.
use Rattle.std.specs.Prelude.{Some, None, is_some}
use Rattle.std.specs.Ordering.{is_lt, is_gt}
use Rattle.std.specs.declared.cmp.Ordering.{Ordering}
use Rattle.std.specs.declared.cmp.Ordering.TheVariants.{Less, Equal, Greater}
use Prim.Native.Nat.{ℕ, zero, suc, ◌+◌, ◌≤◌, ◌<◌, zero-le, suc-le-suc}
use mathlib.Core.Path.{◌≡◌, refl, sym, ap, ◌∙◌}
use mathlib.Core.Bool.{Bool, true, false, ◌&&◌}
use mathlib.Core.List.{List, [], ◌∷◌}
use mathlib.Core.Logic.{⊎_elim}
use native.Mathlib.Omega.{arith}
use native.Mathlib.Nat.{le_of_suc-le-suc, not-suc-le-zero, le_trans, zero-add, add-zero, eq-or-lt_of_le}
use native.Mathlib.Numerals.{add-one}
use lib.Dec.{leb}
use lib.ListN.{length}
use borrow.Author.Tests.{le-leb, lt-leb, leb-true, leb-false}
use Rattle.definition.specs.Basics.{between}
use Rattle.definition.specs.ClassFile.{Range, in_ranges, ascending}
use Rattle.lemmas.proofs.Cases.{never, by_bool, by_order, by_lt}
use Rattle.class_file.specs.Ends.{first_at, last_at}
use Rattle.class_file.proofs.Ranges.{ascending_step, each_legal, apart}
use Rattle.class_file.specs.Search.{Holds, range_from, range_of, side}

-- ---- the test of a range

module _ (a b c : ℕ) where
  -- a number that a range holds passes its test
  pub between_yes : a ≤ c → c ≤ b → between a b c ≡ true
  between_yes p q = simp (le-leb a c p, le-leb c b q)

  -- one above it doesn't
  pub between_above : b < c → between a b c ≡ false
  between_above p = by_bool (λ t. (t && leb c b) ≡ false) (leb a c) (λ e. lt-leb c b p) (λ e. refl)

  -- a range's test by its three cases: within, below and above
  pub between_cases : (P : Bool → Type 0) → (a ≤ c → c ≤ b → P true) → (c < a → P false) → (b < c → P false) → P (between a b c)
  between_cases P within below above =
      by_bool (λ t. P (t && leb c b)) (leb a c)
      (λ e. by_bool P (leb c b) (λ q. within (leb-true a c e) (leb-true c b q)) (λ q. above (leb-false c b q)))
      (λ e. below (leb-false a c e))

-- ---- what `range_of` answers, of any list

-- the range that is answered, counted from n, holds c
holds_from : (n : ℕ) (rs : List Range) (c i : ℕ) → range_from n rs c ≡ Some i → (k : ℕ) × ((i ≡ n + k) × Holds rs c k)
unfolding range_from
holds_from n [] c i = λ e. absurd (let z : ◌≡◌ {A = ℕ} 0 1 = cc in omega arith)
holds_from n (r ∷ rs) c i =
    let later : range_from (suc n) rs c ≡ Some i → (k : ℕ) × ((i ≡ n + k) × Holds (r ∷ rs) c k) = λ e.
    let w = holds_from (suc n) rs c i e in
    (suc w.0, (omega (arith, w.1.0), record { there = suc-le-suc w.1.1.there; from = w.1.1.from; to = w.1.1.to })) in
    between_cases r.0 r.1 c
    (λ t. elim t [ true ↦ Some n | false ↦ range_from (suc n) rs c ] ≡ Some i → (k : ℕ) × ((i ≡ n + k) × Holds (r ∷ rs) c k))
    (λ p q e. let z : n ≡ i = cc in (0, (omega arith, record { there = suc-le-suc zero-le; from = p; to = q })))
    (λ p e. later e)
    (λ p e. later e)

-- a range that is answered holds c
pub found_holds : (rs : List Range) (c i : ℕ) → range_of rs c ≡ Some i → Holds rs c i
unfolding range_of
found_holds rs c i e =
    let w = holds_from 0 rs c i e in
    let q : w.0 ≡ i = omega (arith, w.1.0) in
    rw q at w.1.1

-- whether a range is answered is whether c is in one of the ranges
from_in_ranges : (n : ℕ) (rs : List Range) (c : ℕ) → is_some (range_from n rs c) ≡ in_ranges rs c
unfolding range_from in_ranges
from_in_ranges n [] c = refl
from_in_ranges n (r ∷ rs) c =
    by_bool (λ t. is_some (elim t [ true ↦ Some n | false ↦ range_from (suc n) rs c ]) ≡ elim t [ true ↦ true | false ↦ in_ranges rs c ]) (between r.0 r.1 c)
    (λ e. refl)
    (λ e. from_in_ranges (suc n) rs c)

-- and so of the whole list
pub found_in_ranges : (rs : List Range) (c : ℕ) → is_some (range_of rs c) ≡ in_ranges rs c
unfolding range_of
found_in_ranges rs c = from_in_ranges 0 rs c

-- where no range holds c, nothing is answered
none_from : (n : ℕ) (rs : List Range) (c : ℕ) → ((i : ℕ) → Holds rs c i → ⊥) → range_from n rs c ≡ None
unfolding range_from
none_from n [] c no_range = refl
none_from n (r ∷ rs) c no_range =
    let later = none_from (suc n) rs c (λ i h. no_range (suc i) (record { there = suc-le-suc h.there; from = h.from; to = h.to })) in
    between_cases r.0 r.1 c (λ t. elim t [ true ↦ Some n | false ↦ range_from (suc n) rs c ] ≡ None)
    (λ p q. absurd (no_range 0 (record { there = suc-le-suc zero-le; from = p; to = q })))
    (λ p. later)
    (λ p. later)

-- and so of the whole list
pub none_found : (rs : List Range) (c : ℕ) → ((i : ℕ) → Holds rs c i → ⊥) → range_of rs c ≡ None
unfolding range_of
none_found rs c no_range = none_from 0 rs c no_range

-- ---- and of a list that ascends

-- a range that holds c is the one that is answered
only_from : (m n : ℕ) (rs : List Range) (c i : ℕ) → ascending m rs ≡ true → Holds rs c i → range_from n rs c ≡ Some (n + i)
unfolding range_from
only_from m n [] c i up h = absurd (not-suc-le-zero h.there)
only_from m n (r ∷ rs) c zero up h = rw (range_from, between_yes r.0 r.1 c h.from h.to, add-zero)
only_from m n (r ∷ rs) c (suc i) up h =
    let s = ascending_step m r rs up in
    let l = each_legal (suc r.1) rs s.rest i (le_of_suc-le-suc h.there) in
    let e : suc n + i ≡ n + suc i = omega arith in
    rw (range_from, between_above r.0 r.1 c (le_trans l.on h.from), ← e)
    (only_from (suc r.1) (suc n) rs c i s.rest (record { there = le_of_suc-le-suc h.there; from = h.from; to = h.to }))

module _ {rs : List Range} (up : ascending 0 rs ≡ true) where
  -- the answer is the range that holds c
  pub found_only : (c i : ℕ) → Holds rs c i → range_of rs c ≡ Some i
  unfolding range_of
  found_only c i h = only_from 0 0 rs c i up h ∙ ap Some (zero-add i)

  -- no two ranges hold the same code point
  pub only_range : (c i j : ℕ) → Holds rs c i → Holds rs c j → i ≡ j
  only_range c i j h k = let p = found_only c i h in let q = found_only c j k in cc

  -- where nothing is answered no range holds c
  pub none_holds : (c i : ℕ) → range_of rs c ≡ None → Holds rs c i → ⊥
  none_holds c i e h =
      let p = found_only c i h in
      let z : ◌≡◌ {A = ℕ} 0 1 = cc in
      omega arith

-- ---- the search

-- a code point that is in a range is in one from low up to high
pub record Narrowed (rs : List Range) (c low high : ℕ) : Type 0 where
  pub in_order : low ≤ high
  pub within : high ≤ length rs
  pub before : (i : ℕ) → i < low → last_at rs i < c
  pub after : (i : ℕ) → high ≤ i → i < length rs → c < first_at rs i

-- the search starts with all ranges
pub narrow_start : (rs : List Range) (c n : ℕ) → n ≡ length rs → Narrowed rs c 0 n
narrow_start rs c n e = record {
  in_order = zero-le;
  within = omega arith;
  before = λ i h. absurd (not-suc-le-zero h);
  after = λ i h l. absurd (omega arith);
}

-- it ends with none where there are none left
pub narrow_none : (rs : List Range) (c low high : ℕ) → Narrowed rs c low high → high ≤ low → range_of rs c ≡ None
narrow_none rs c low high w h =
    none_found rs c
    (λ i k.
    by_order i low
    (λ l. omega (arith, w.before i l, k.to))
    (λ l. omega (arith, w.after i (le_trans h l) k.there, k.from)))

module _ {c low high : ℕ} {rs : List Range} (up : ascending 0 rs ≡ true) (w : Narrowed rs c low high) (mid : ℕ) (l : low ≤ mid) (h : mid < high) where
  -- a range that begins above c, and all after it, can't hold c
  pub narrow_high : c < first_at rs mid → Narrowed rs c low mid
  narrow_high p = record {
    in_order = l;
    within = omega (arith, w.within);
    before = w.before;
    after = λ i q t.
        ⊎_elim (λ e. rw e at p)
        (λ m. omega (arith, apart 0 rs up mid i m t, (each_legal 0 rs up mid (omega (arith, w.within))).whole))
        (eq-or-lt_of_le q);
  }

  -- nor can a range that ends below c, and all before it
  pub narrow_low : last_at rs mid < c → Narrowed rs c (mid + 1) high
  narrow_low p = record {
    in_order = omega arith;
    within = w.within;
    before = λ i q.
        ⊎_elim (λ e. rw e p)
        (λ m. omega (arith, apart 0 rs up i mid m (omega (arith, w.within)), (each_legal 0 rs up mid (omega (arith, w.within))).whole))
        (eq-or-lt_of_le (le_of_suc-le-suc (rw add-one at q)));
    after = w.after;
  }

  -- a range that neither begins above c nor ends below it is the answer
  pub narrow_found : first_at rs mid ≤ c → c ≤ last_at rs mid → range_of rs c ≡ Some mid
  narrow_found p q = found_only up c mid (record { there = omega (arith, w.within); from = p; to = q })

-- a range's side by its three cases
side_cases : (r : Range) (c : ℕ) (P : Ordering → Type 0) → (c < r.0 → P Greater) → (r.0 ≤ c → r.1 < c → P Less) → (r.0 ≤ c → c ≤ r.1 → P Equal) → P (side r c)
side_cases r c P after before around = by_lt P c r.0 after (λ h. by_lt P r.1 c (before h) (around h))

-- what each side says
pub side_greater : (r : Range) (c : ℕ) → is_gt (side r c) ≡ true → c < r.0
side_greater r c = side_cases r c (λ t. is_gt t ≡ true → c < r.0) (λ h e. h) (λ h k e. never e) (λ h k e. never e)

pub side_less : (r : Range) (c : ℕ) → is_lt (side r c) ≡ true → r.1 < c
side_less r c = side_cases r c (λ t. is_lt t ≡ true → r.1 < c) (λ h e. never e) (λ h k e. k) (λ h k e. never e)

pub side_equal : (r : Range) (c : ℕ) → is_gt (side r c) ≡ false → is_lt (side r c) ≡ false → (r.0 ≤ c) × (c ≤ r.1)
side_equal r c =
    side_cases r c (λ t. is_gt t ≡ false → is_lt t ≡ false → (r.0 ≤ c) × (c ≤ r.1))
    (λ h e. never (sym e))
    (λ h k e f. never (sym f))
    (λ h k e f. (h, k))
