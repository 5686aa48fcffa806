-- What a class file says where its bytes stand: the layout's laws, the ranges of a class as the chunks that spell them, and
-- what the class check's acceptance gives. Rests on the definition's `laid_out` and `class_check`. Assumes nothing.
use Prim.Native.Nat.{ℕ, zero, suc, ◌+◌, ◌-◌, ◌*◌, ◌/◌, ◌≤◌, ◌<◌, zero-le}
use mathlib.Core.Path.{◌≡◌, refl, sym, ap, ◌∙◌}
use mathlib.Core.Bool.{Bool, true, false, ◌&&◌}
use mathlib.Core.Logic.{⊎_elim}
use native.Mathlib.Omega.{arith}
use native.Mathlib.Nat.{le_of_suc-le-suc, not-suc-le-zero, le_refl, eq-or-lt_of_le}
use native.Mathlib.Numerals.{add-one}
use lib.Dec.{eqb}
use mathlib.Core.List.{List, ◌∷◌}
use lib.ListN.{length, take, drop, length-drop}
use lib.Seq.{get_or-take, take-take}
use Rattle.std.specs.Prelude.{map}
use Rattle.std.specs.Simd.{first_chunks}
use Rattle.std.proofs.lemmas.List.{drop-take, length-take}
use Rattle.class_file.specs.Search.{range_at}
use borrow.Author.Tests.{eqb-true, le-ltb, lt-ltb, eq-eqb, ne_eqb}
use Rattle.definition.specs.Basics.{Bytes}
use Rattle.definition.specs.ClassFile.{Range, little_endian, class_count, class_offset, counts_before, class_start, read_ranges, ranges_of, bad_class_length, offsets_right, laid_out, ascending, ranges_right, class_check}
use Rattle.lemmas.proofs.Cases.{by_bool, by_order, never}
use Rattle.class_file.proofs.Tests.{all_each, all_more, all_fails}

-- ---- the places of the classes

-- the next class begins where the ranges of this one end
pub place_next : (f : Bytes) (k : ℕ) → class_start f (suc k) ≡ class_start f k + 8 * class_count f k
unfolding class_start counts_before
place_next f k = omega arith

-- the first class begins after the header
pub place_first : (f : Bytes) → class_start f 0 ≡ 48
unfolding class_start counts_before
place_first f = refl

-- the places never fall
pub place_rises : (f : Bytes) (j k : ℕ) → j ≤ k → class_start f j ≤ class_start f k
place_rises f zero zero h = le_refl (class_start f 0)
place_rises f (suc j) zero h = absurd (not-suc-le-zero h)
place_rises f j (suc k) h =
    ⊎_elim (λ e. rw e (le_refl (class_start f (suc k))))
    (λ l. omega (arith, place_rises f j k (le_of_suc-le-suc l), place_next f k))
    (eq-or-lt_of_le h)

-- every class begins after the header
pub place_after_header : (f : Bytes) (k : ℕ) → 48 ≤ class_start f k
place_after_header f k = omega (arith, place_first f, place_rises f 0 k zero-le)

-- ---- the layout

-- the offset of class k is right
abbrev offset_test : Bytes → ℕ → Bool
offset_test f k = eqb (class_offset f k) (class_start f k)

-- the test of the offsets asks each class in turn, the last first
offsets_step : (f : Bytes) (k : ℕ) → offsets_right f (suc k) ≡ elim (offset_test f k) [ true ↦ offsets_right f k | false ↦ false ]
unfolding offsets_right
offsets_step f k = refl

-- the offsets before k are right, and place is that of class k; no place is above 48 + 6 * 2^35
pub record Placed (f : Bytes) (k place : ℕ) : Type 0 where
  pub classes : k ≤ 6
  pub placed : place ≡ class_start f k
  pub right : offsets_right f k ≡ true
  pub bounded : place ≤ 48 + 34359738368 * k

-- before the first class there is nothing to test
pub placed_start : (f : Bytes) → Placed f 0 48
unfolding offsets_right
placed_start f = record { classes = zero-le; placed = sym (place_first f); right = refl; bounded = le_refl 48 }

-- a class whose offset is right moves on to the next
pub placed_next : (f : Bytes) (k place count : ℕ) → Placed f k place → k < 6 → count < 4294967296 → count ≡ class_count f k → class_offset f k ≡ place → Placed f (k + 1) (place + 8 * count)
placed_next f k place count p h small e o = record {
  classes = omega arith;
  placed = rw add-one (omega (arith, place_next f k));
  right = all_more (offset_test f) (offsets_right f) (offsets_step f) k p.right (eq-eqb (class_offset f k) (class_start f k) (o ∙ p.placed));
  bounded = omega arith;
}

-- one whose offset is wrong ends the test
pub placed_wrong : (f : Bytes) (k place : ℕ) → Placed f k place → k < 6 → (class_offset f k ≡ place → ⊥) → laid_out f ≡ false
unfolding laid_out
placed_wrong f k place p h wrong =
    rw (laid_out, all_fails (offset_test f) (offsets_right f) (offsets_step f) 6 k h (ne_eqb (class_offset f k) (class_start f k) (λ e. wrong (e ∙ sym p.placed))))

-- past the last class only the length is left
pub placed_end : (f : Bytes) (k place : ℕ) → Placed f k place → 6 ≤ k → laid_out f ≡ eqb (length f) place
unfolding laid_out
placed_end f k place p h =
    let e : k ≡ 6 = omega arith in
    let right = rw e at p.right in
    let placed = rw e at p.placed in
    rw (laid_out, right, placed)

-- a file that is laid out as document 01 says
pub record Laid (f : Bytes) : Type 0 where
  pub offset : (k : ℕ) → k < 6 → class_offset f k ≡ class_start f k
  pub whole : length f ≡ class_start f 6

-- the definition's test says so
pub laid : (f : Bytes) → laid_out f ≡ true → Laid f
unfolding laid_out
laid f =
    by_bool (λ t. (t && eqb (length f) (class_start f 6)) ≡ true → Laid f) (offsets_right f 6)
    (λ o e. record { offset = λ k h. eqb-true (class_offset f k) (class_start f k) (all_each (offset_test f) (offsets_right f) (offsets_step f) 6 o k h); whole = eqb-true (length f) (class_start f 6) e })
    (λ o e. never e)

module _ (f : Bytes) (l : Laid f) where
  -- the ranges of a class lie within the file
  pub class_within : (k : ℕ) → k < 6 → class_start f k + 8 * class_count f k ≤ length f
  class_within k h = omega (arith, place_next f k, place_rises f (suc k) 6 h, l.whole)

  -- and so does the header
  pub header_within : 48 ≤ length f
  header_within = omega (arith, place_after_header f 6, l.whole)

-- ---- the ranges of a class, by the chunks of eight bytes that spell them

-- as many ranges are read as are asked for
pub length_read : (n : ℕ) (l : Bytes) → length (read_ranges n l) ≡ n
unfolding read_ranges
length_read zero l = refl
length_read (suc n) l = ap suc (length_read n (drop 8 l))

-- a class has as many ranges as the header counts
pub length_ranges : (f : Bytes) (k : ℕ) → length (ranges_of f k) ≡ class_count f k
unfolding ranges_of
length_ranges f k = length_read (class_count f k) (drop (class_start f k) f)

-- the first four bytes of a part are those of the whole
spells_front : (n : ℕ) (l : Bytes) → 4 ≤ n → little_endian (take n l) ≡ little_endian l
unfolding little_endian
spells_front n l h =
    rw (little_endian, get_or-take n l 0 0 (omega arith), get_or-take n l 1 0 (omega arith), get_or-take n l 2 0 (omega arith), get_or-take n l 3 0 (omega arith))

-- the range that the first eight bytes spell
range_front : (l : Bytes) → range_at (take 8 l) ≡ (little_endian l, little_endian (drop 4 l))
range_front l = rw (spells_front 8 l (omega arith), drop-take 4 4 l, spells_front 4 (drop 4 l) (omega arith))

-- the chunks of eight bytes spell the ranges one after the other
chunks_read : (n : ℕ) (l : Bytes) → map range_at (first_chunks 8 n (take (8 * n) l)) ≡ read_ranges n l
unfolding read_ranges
chunks_read zero l = refl
chunks_read (suc n) l =
    let e : 8 * suc n ≡ 8 + 8 * n = omega arith in
    rw (e, take-take 8 (8 + 8 * n) l (omega arith), drop-take 8 (8 * n) l, range_front l)
    (ap (λ (rs : List Range). (little_endian l, little_endian (drop 4 l)) ∷ rs) (chunks_read n (drop 8 l)))

-- so do those of the part of the file where a class stands
pub class_chunks : (f : Bytes) (k start count n : ℕ) → start ≡ class_start f k → count ≡ class_count f k → n ≡ 8 * count → start + n ≤ length f
    → map range_at (first_chunks 8 (length (take n (drop start f)) / 8) (take n (drop start f))) ≡ ranges_of f k
unfolding ranges_of
class_chunks f k start count n from counted size within =
    let whole : length (take n (drop start f)) / 8 ≡ count = simp (length-take, length-drop) (omega arith) in
    rw (whole, size, ranges_of, ← from, ← counted) (chunks_read count (drop start f))

-- ---- the class check

-- the test of the ranges asks each class in turn, the last first
ranges_step : (f : Bytes) (k : ℕ) → ranges_right f (suc k) ≡ elim (ascending 0 (ranges_of f k)) [ true ↦ ranges_right f k | false ↦ false ]
unfolding ranges_right
ranges_step f k = refl

-- before the first class there is nothing to test
pub ranges_start : (f : Bytes) → ranges_right f 0 ≡ true
unfolding ranges_right
ranges_start f = refl

-- a class that ascends moves on to the next
pub ranges_more : (f : Bytes) (k : ℕ) → ranges_right f k ≡ true → ascending 0 (ranges_of f k) ≡ true → ranges_right f (k + 1) ≡ true
ranges_more f = all_more (λ k. ascending 0 (ranges_of f k)) (ranges_right f) (ranges_step f)

-- one that does not ends the test
pub ranges_fail : (f : Bytes) (k : ℕ) → k < 6 → ascending 0 (ranges_of f k) ≡ false → ranges_right f 6 ≡ false
ranges_fail f k = all_fails (λ k. ascending 0 (ranges_of f k)) (ranges_right f) (ranges_step f) 6 k

-- the arms of the check, each from the tests that lead to it
module _ (f : Bytes) where
  pub check_short : length f < 48 → class_check f ≡ 3
  unfolding class_check bad_class_length
  check_short h = rw (class_check, bad_class_length, lt-ltb (length f) 48 h)

  pub check_long : 48 ≤ length f → 65536 < length f → class_check f ≡ 3
  unfolding class_check bad_class_length
  check_long h l = rw (class_check, bad_class_length, le-ltb (length f) 48 h, lt-ltb 65536 (length f) l)

  module _ (h : 48 ≤ length f) (l : length f ≤ 65536) where
    pub check_layout : laid_out f ≡ false → class_check f ≡ 4
    unfolding class_check bad_class_length
    check_layout o = rw (class_check, bad_class_length, le-ltb (length f) 48 h, le-ltb 65536 (length f) l, o)

    pub check_ranges : laid_out f ≡ true → ranges_right f 6 ≡ false → class_check f ≡ 5
    unfolding class_check bad_class_length
    check_ranges o r = rw (class_check, bad_class_length, le-ltb (length f) 48 h, le-ltb 65536 (length f) l, o, r)

    pub check_passes : laid_out f ≡ true → ranges_right f 6 ≡ true → class_check f ≡ 0
    unfolding class_check bad_class_length
    check_passes o r = rw (class_check, bad_class_length, le-ltb (length f) 48 h, le-ltb 65536 (length f) l, o, r)

-- what acceptance gives: of each class k, that its offset in the header is its place, its ranges lie within the file,
-- there are no more of them than the file has room for, and they ascend
pub record Accepted (f : Bytes) : Type 0 where
  pub laid_right : laid_out f ≡ true
  pub long : 48 ≤ length f
  pub short : length f ≤ 65536
  pub offset : (k : ℕ) → k < 6 → class_offset f k ≡ class_start f k
  pub within : (k : ℕ) → k < 6 → class_start f k + 8 * class_count f k ≤ length f
  pub few : (k : ℕ) → k < 6 → class_count f k ≤ (length f - 48) / 8
  pub ascends : (k : ℕ) → k < 6 → ascending 0 (ranges_of f k) ≡ true

-- the check's 0 gives it
pub accepted : (f : Bytes) → class_check f ≡ 0 → Accepted f
accepted f e =
    by_order (length f) 48 (λ h. absurd (omega (arith, check_short f h)))
    (λ h.
    by_order 65536 (length f) (λ l. absurd (omega (arith, check_long f h l)))
    (λ l.
    by_bool (λ t. Accepted f) (laid_out f)
    (λ o.
    by_bool (λ t. Accepted f) (ranges_right f 6)
    (λ r. all_right h l o r)
    (λ r. absurd (omega (arith, check_ranges f h l o r))))
    (λ o. absurd (omega (arith, check_layout f h l o)))))
  where
    all_right : 48 ≤ length f → length f ≤ 65536 → laid_out f ≡ true → ranges_right f 6 ≡ true → Accepted f
    all_right h l o r = record {
      laid_right = o;
      long = h;
      short = l;
      offset = (laid f o).offset;
      within = class_within f (laid f o);
      few = λ k q. omega (arith, class_within f (laid f o) k q, place_after_header f k);
      ascends = all_each (λ k. ascending 0 (ranges_of f k)) (ranges_right f) (ranges_step f) 6 r;
    }
