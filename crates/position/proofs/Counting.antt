-- The laws of the count and of columns, for any weight: a count is cut at any place, the loops that make it byte by byte and part by part,
-- the column that goes on from a known one. Those of the count of characters: what a byte counts, by its quotient by 64; that it is at
-- most the bytes; that a part of the bytes counts by itself what it counts in the whole; that it is a sum over the bytes. Rests on the
-- definition, and on the laws of cases (crate `lemmas`).
use Prim.Native.Nat.{ℕ, zero, suc, ◌+◌, ◌-◌, ◌*◌, ◌/◌, ◌%◌, ◌≤◌, ◌<◌}
use native.Mathlib.Nat.{zero-add, suc-add, add_assoc, add-suc, add-zero}
use native.Mathlib.Omega.{arith}
use mathlib.Core.Path.{◌≡◌, refl, sym, ap, ap₂, ◌∙◌}
use mathlib.Core.Bool.{Bool, true, false}
use mathlib.Core.List.{◌++◌}
use lib.ListN.{length, get_or, take, drop}
use lib.Seq.{drop-cons, drop-drop, get_or-take, get_or-drop, take-append_seam, drop-append_seam}
use Rattle.std.specs.Prelude.{sum_by}
use Rattle.std.proofs.lemmas.List.{length-append, length-drop}
use Rattle.std.proofs.lemmas.List.Sums.{sum_by-cons}
use borrow.Author.Tests.{le-leb, lt-leb}
use Rattle.definition.specs.Basics.{Bytes}
use Rattle.definition.specs.Position.{Weight, one_each, is_continuation, weight_at, count_chars, col_by, col_of}
use Rattle.definition.specs.declared.State.{State}
use Rattle.lemmas.proofs.Cases.{by_order}
use Rattle.position.specs.declared.Cache.{Cache}
use Rattle.position.specs.Columns.{unit, Known, Asked, column_at}

-- ---- any weight

-- the count of n bytes and of the m bytes after them
pub count_split : (w : Weight) (s : Bytes) (i n m : ℕ) → count_chars w s i (n + m) ≡ count_chars w s i n + count_chars w s (i + n) m
unfolding count_chars
count_split w s i zero m = simp (zero-add, add-zero)
count_split w s i (suc n) m =
    rw (suc-add, add-suc, ← suc-add)
    (ap (λ (x : ℕ). weight_at w s i + x) (count_split w s (suc i) n m) ∙ sym (add_assoc (weight_at w s i) (count_chars w s (suc i) n) (count_chars w s (suc i + n) m)))

-- from an offset to itself nothing is counted
pub count_none : (w : Weight) (s : Bytes) (i : ℕ) → count_chars w s i (i - i) ≡ 0
unfolding count_chars
count_none w s i = let z : i - i ≡ 0 = omega arith in ap (count_chars w s i) z

-- the count from one offset to another is cut at any offset between them
pub count_through : (w : Weight) (s : Bytes) (i k j : ℕ) → i ≤ k → k ≤ j → count_chars w s i (j - i) ≡ count_chars w s i (k - i) + count_chars w s k (j - k)
count_through w s i k j h l =
    let n : i + (k - i) ≡ k = omega arith in
    let m : j - i ≡ k - i + (j - k) = omega arith in
    ap (count_chars w s i) m ∙ rw n at (count_split w s i (k - i) (j - k))

-- the column of an offset goes on from the column of one before it
pub column_on : (w : Weight) (s : Bytes) (st : State) (k i : ℕ) → st.bol ≤ k → k ≤ i → col_by w s st k + count_chars w s k (i - k) ≡ col_by w s st i
unfolding col_by
column_on w s st k i h l = omega (arith, count_through w s st.bol k i h l)

-- ---- the count of characters

-- what a byte counts
pub unit_is : (s : Bytes) (i : ℕ) → weight_at one_each s i ≡ unit (get_or s i 0)
unfolding weight_at unit
unit_is s i = refl

pub below_tails : (b : ℕ) → b < 0x80 → 1 ≡ unit b
unfolding unit is_continuation
below_tails b h = rw (lt-leb 0x80 b h, unit)

in_tails : (b : ℕ) → 0x80 ≤ b → b ≤ 0xBF → 0 ≡ unit b
unfolding unit is_continuation
in_tails b h k = rw (le-leb 0x80 b h, le-leb b 0xBF k, unit)

above_tails : (b : ℕ) → 0x80 ≤ b → 0xBF < b → 1 ≡ unit b
unfolding unit is_continuation
above_tails b h k = rw (le-leb 0x80 b h, lt-leb b 0xBF k, unit)

-- for every byte the arithmetic on its quotient by 64 is 0 from 128 to 191, and 1 otherwise
pub by_quotient : (b : ℕ) → b ≤ 255 → (3 * (b / 64) + 4) / 4 % 2 ≡ unit b
by_quotient b h =
    by_order b 0x80
    (λ l. by_order b 0x40 (λ k. quotient 0 (omega arith) (below_tails b l)) (λ k. quotient 1 (omega arith) (below_tails b l)))
    (λ l. by_order 0xBF b (λ k. quotient 3 (omega arith) (above_tails b l k)) (λ k. quotient 2 (omega arith) (in_tails b l k)))
  where
    quotient : (q : ℕ) → b / 64 ≡ q → (3 * q + 4) / 4 % 2 ≡ unit b → (3 * (b / 64) + 4) / 4 % 2 ≡ unit b
    quotient q e u = rw e u

pub unit_small : (b : ℕ) → unit b ≤ 1
unfolding unit
unit_small b = go (is_continuation b)
  where
    go : (t : Bool) → elim t as (λ _. ℕ) [ true ↦ 0 | false ↦ 1 ] ≤ 1
    go true = omega arith
    go false = omega arith

-- there are at most as many characters as bytes
pub count_small : (s : Bytes) (i n : ℕ) → count_chars one_each s i n ≤ n
unfolding count_chars
count_small s i zero = omega arith
count_small s i (suc n) = omega (arith, unit_is s i, unit_small (get_or s i 0), count_small s (suc i) n)

-- a column is at most the line start's and the bytes since
pub column_small : (s : Bytes) (st : State) (i : ℕ) → col_of s st i ≤ st.column + (i - st.bol)
unfolding col_by
column_small s st i = omega (arith, count_small s st.bol (i - st.bol))

-- ---- the loops that count, by any weight: n is the count of the bytes from i up to k, and those from k up to j are left

pub record Counting (w : Weight) (s : Bytes) (i j n k : ℕ) : Type 0 where
  pub on : i ≤ k
  pub left : n + count_chars w s k (j - k) ≡ count_chars w s i (j - i)

module _ (w : Weight) (s : Bytes) (i j : ℕ) where
  pub counting_starts : Counting w s i j 0 i
  counting_starts = record { on = omega arith; left = zero-add (count_chars w s i (j - i)) }

  -- it goes on by the bytes from k up to m
  pub counting_goes_to : (n k m : ℕ) → k ≤ m → m ≤ j → Counting w s i j n k → Counting w s i j (n + count_chars w s k (m - k)) m
  counting_goes_to n k m h t c =
      let l = c.left in
      let f = c.on in
      record { on = omega arith; left = omega (arith, count_through w s k m j h t) }

  -- and so by one byte
  pub counting_goes_on : (n k : ℕ) → k < j → Counting w s i j n k → Counting w s i j (n + weight_at w s k) (k + 1)
  unfolding count_chars
  counting_goes_on n k h c =
      let m : k + 1 - k ≡ 1 = omega arith in
      let e : count_chars w s k (k + 1 - k) ≡ weight_at w s k = ap (count_chars w s k) m ∙ add-zero (weight_at w s k) in
      rw e at (counting_goes_to n k (k + 1) (omega arith) (omega arith) c)

  pub counting_ends : (n k : ℕ) → j ≤ k → Counting w s i j n k → n ≡ count_chars w s i (j - i)
  unfolding count_chars
  counting_ends n k h c =
      let m : j - k ≡ 0 = omega arith in
      let l = c.left in
      omega (arith, ap (count_chars w s k) m)

-- the count of characters is at most the bytes that were counted
pub counted_small : (s : Bytes) (i j n k : ℕ) → k ≤ j → Counting one_each s i j n k → n ≤ k - i
counted_small s i j n k h c =
    let l = c.left in
    omega (arith, count_through one_each s i k j c.on h, count_small s i (k - i))

-- ---- the count within a part of the bytes

-- m bytes from the i-th byte of a part on, of the n bytes from k on, count what they count in the whole
count_within : (s : Bytes) (k n i m : ℕ) → i + m ≤ n → count_chars one_each (take n (drop k s)) i m ≡ count_chars one_each s (k + i) m
unfolding count_chars
count_within s k n i zero h = refl
count_within s k n i (suc m) h =
    let byte : get_or (take n (drop k s)) i 0 ≡ get_or s (k + i) 0 = get_or-take n (drop k s) i 0 (omega arith) ∙ get_or-drop k s i 0 in
    ap₂ (λ (x y : ℕ). x + y)
    (unit_is (take n (drop k s)) i ∙ ap unit byte ∙ sym (unit_is s (k + i)))
    (rw add-suc at (count_within s k n (suc i) m (omega arith)))

-- and so the first m bytes of a part
pub count_in_part : (s : Bytes) (k n m : ℕ) → m ≤ n → count_chars one_each (take n (drop k s)) 0 m ≡ count_chars one_each s k m
count_in_part s k n m h = rw add-zero at (count_within s k n 0 m (omega arith))

-- a part of m bytes in front of the rest, from k on, counts what m bytes count in the whole
pub count_of_front : (s : Bytes) (k m : ℕ) (part rest : Bytes) → drop k s ≡ part ++ rest → length part ≡ m → count_chars one_each part 0 (length part) ≡ count_chars one_each s k m
count_of_front s k m part rest e q =
    let front : take (length part) (drop k s) ≡ part = ap (take (length part)) e ∙ take-append_seam part rest in
    rw q (rw front at (count_in_part s k (length part) m (omega arith)))

-- where the rest behind a part begins, and that it is what is left from there on
pub rest_begins : (s : Bytes) (k : ℕ) (part rest : Bytes) → k ≤ length s → drop k s ≡ part ++ rest → length s - length rest ≡ k + length part
rest_begins s k part rest h e = omega (arith, simp (length-drop, length-append) at (ap length e))

pub rest_left : (s : Bytes) (k : ℕ) (part rest : Bytes) → k ≤ length s → drop k s ≡ part ++ rest → drop (length s - length rest) s ≡ rest
rest_left s k part rest h e =
    rw (rest_begins s k part rest h e)
    (sym (drop-drop (length part) k s) ∙ ap (drop (length part)) e ∙ drop-append_seam part rest)

-- ---- the count as a sum over the bytes, which is another way to say what `count_part` and `count_parts` answer; no proof cites it

-- the count of the bytes from i on is the sum of what they count
pub count_units : (s : Bytes) (i n : ℕ) → i + n ≤ length s → count_chars one_each s i n ≡ sum_by unit (take n (drop i s))
unfolding count_chars
count_units s i zero h = refl
count_units s i (suc n) h =
    rw (drop-cons s i 0 (omega arith), sum_by-cons unit)
    (ap₂ (λ (x y : ℕ). x + y) (unit_is s i) (count_units s (suc i) n (omega arith)))

-- ---- the cache

-- what `col_of` leaves in the cache is known
pub known_again : (w : Weight) (s : Bytes) (st : State) (i : ℕ) → st.bol ≤ i → Known w s st (column_at w s st i)
known_again w s st i h = record { after = h; column = refl }

-- from the known offset on
pub from_known : (w : Weight) (s : Bytes) (st : State) (known : Cache) (i n : ℕ)
    → Known w s st known
    → known.off ≤ i
    → n ≡ count_chars w s known.off (i - known.off)
    → ◌≡◌ {A = Cache} (record { off = i; col = known.col + n }) (column_at w s st i)
from_known w s st known i n a h e =
    ap (λ (x : ℕ). record { off = i; col = x })
    (rw (a.column, e) (column_on w s st known.off i a.after h))

-- the line start is known
pub start_known : (w : Weight) (s : Bytes) (st : State) → Known w s st (record { off = st.bol; col = st.column })
unfolding col_by
start_known w s st = record { after = omega arith; column = omega (arith, count_none w s st.bol) }

-- ---- the numbers stay small

-- a count within a text that is not too long
pub count_fits : (s : Bytes) (a i n : ℕ) → i ≤ 1048576 → n ≡ count_chars one_each s a (i - a) → n ≤ 1048576
count_fits s a i n h e = omega (arith, e, count_small s a (i - a))

-- the column of an offset that may be asked for
pub column_fits : {s : Bytes} {st : State} {known : Cache} {i : ℕ} (c : Cache) → Asked one_each s st known i → c ≡ column_at one_each s st i → c.col ≤ 2048576
column_fits {s} {st} {i = i} c a e =
    let m = a.margin in
    let t = a.to in
    let l = a.short in
    omega (arith, ap (λ (x : Cache). x.col) e, column_small s st i)
