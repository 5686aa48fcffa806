-- Tables of rows of padded bytes: what the code reads at a row and a byte is the word's byte. Rests on the laws of lists.
use Rattle.std.specs.Prelude.{Some, None}
use Prim.Native.Nat.{ℕ, zero, suc, ◌+◌, ◌≤◌, ◌<◌}
use Prim.Native.String.{String}
use mathlib.Core.Path.{◌≡◌, refl, sym, ap, ◌∙◌}
use mathlib.Core.Bool.{Bool, true, false, ◌&&◌}
use mathlib.Core.List.{List, [], ◌∷◌, ◌++◌, map}
use native.Mathlib.Nat.{add-zero}
use native.Mathlib.Omega.{arith}
use lib.Dec.{leb}
use lib.ListN.{length, get_or, drop, replicate, get_or-append, get_or-map}
use lib.Seq.{get_or-take}
use borrow.Author.Tests.{leb-true}
use Rattle.definition.specs.Basics.{Bytes}
use Rattle.definition.specs.Chars.{count_up}
use Rattle.definition.specs.Text.{byte_is}
use Rattle.definition.specs.Matchers.{match_lit}
use Rattle.lemmas.proofs.Cases.{both}
use Rattle.match_lit.proofs.ByteLaws.{lit_on, lit_stop, lit_done}
use Rattle.table_words.specs.Rows.{Row, numbered, pad, padded}
use Rattle.table_words.proofs.RowLaws.{no_row, word_at}

-- the lengths of the words
abbrev pub lengths : List Row → List ℕ
lengths rs = map (λ (r : Row). length r.1) rs

-- each word fits its row
abbrev pub all_short : ℕ → List Row → Bool
all_short n [] = true
all_short n (r ∷ rs) = leb (length r.1) n && all_short n rs

-- Within a list the default of `get_or` does not matter.
pub get_d_any : {A : Type 0} (l : List A) (k : ℕ) (d e : A) → k < length l → get_or l k d ≡ get_or l k e
get_d_any [] k d e h = absurd (omega arith)
get_d_any (x ∷ l) zero d e h = refl
get_d_any (x ∷ l) (suc k) d e h = get_d_any l k d e (omega arith)

-- A map over a list is as long as the list.
length_mapped : {A B : Type 0} (f : A → B) (l : List A) → length (map f l) ≡ length l
length_mapped f [] = refl
length_mapped f (x ∷ l) = ap suc (length_mapped f l)

-- A word of a table of short words is short.
pub row_short : (n : ℕ) (rs : List Row) → all_short n rs ≡ true → (k : ℕ) → length (word_at rs k) ≤ n
row_short n [] t k = omega arith
row_short n (r ∷ rs) t zero = leb-true (length r.1) n (both (leb (length r.1) n) (all_short n rs) t).0
row_short n (r ∷ rs) t (suc k) = row_short n rs (both (leb (length r.1) n) (all_short n rs) t).1 k

-- The length at k is that of word k.
pub row_length : (rs : List Row) (k : ℕ) → get_or (lengths rs) k 0 ≡ length (word_at rs k)
row_length rs k = get_or-map (λ (r : Row). length r.1) rs k no_row

-- The byte at k and j is byte j of word k.
pub row_byte : (n : ℕ) (rs : List Row) → all_short n rs ≡ true → (k j : ℕ) → k < length rs → j < length (word_at rs k)
    → get_or (get_or (padded n rs) k []) j 0 ≡ get_or (word_at rs k) j 0
row_byte n rs t k j hk hj =
    let w = word_at rs k in
    let short : length w ≤ n = row_short n rs t k in
    let in_map : k < length (padded n rs) = rw (length_mapped (λ (r : Row). pad n r.1) rs) hk in
    ap (λ (l : Bytes). get_or l j 0) (get_d_any (padded n rs) k [] (pad n []) in_map ∙ get_or-map (λ (r : Row). pad n r.1) rs k no_row)
    ∙ get_or-take n (w ++ replicate n 0) j 0 (omega arith)
    ∙ get_or-append w (replicate n 0) 0 j hj

-- The rows of a definition's table are numbered from its first on.
number_at : (es : List String) (w k : ℕ) → k < length es → (get_or (numbered w es) k no_row).0 ≡ w + k
number_at [] w k h = absurd (omega arith)
number_at (e ∷ es) w zero h = sym (add-zero w)
number_at (e ∷ es) w (suc k) h = omega (arith, number_at es (suc w) k (omega arith))

-- Row k of one that is numbered from 0 on has number k.
pub own_number : (es : List String) (k : ℕ) → k < length es → k ≡ (get_or (numbered 0 es) k no_row).0
own_number es k h = omega (arith, number_at es 0 k h)

-- ---- a word of a table, compared with the text byte by byte

-- n is the length of word k; what is left of it from byte j on gives at `end` what the whole gives at i
pub record Comparing (rs : List Row) (s : Bytes) (i k n end j : ℕ) : Type 0 where
  pub row : k < length rs
  pub count : n ≡ length (word_at rs k)
  pub rest : match_lit s (drop j (word_at rs k)) end ≡ match_lit s (word_at rs k) i

-- At the start the whole word is left.
pub compare_start : (rs : List Row) (s : Bytes) {i k n : ℕ} → k < length rs → n ≡ length (word_at rs k) → Comparing rs s i k n i 0
compare_start rs s h e = record { row = h; count = e; rest = refl }

module _ (width : ℕ) (rs : List Row) (short : all_short width rs ≡ true) (s : Bytes) {i k n end j : ℕ} (c : Comparing rs s i k n end j) where
  -- After its last byte the word is there.
  pub compared : n ≤ j → match_lit s (word_at rs k) i ≡ Some end
  compared h = sym c.rest ∙ lit_done s (word_at rs k) j end (omega (arith, c.count))

  module _ (h : j < n) where
    -- A byte of the word is one of its row.
    pub compare_index : j < width
    compare_index = omega (arith, c.count, row_short width rs short k)

    module _ {b : ℕ} (q : b ≡ get_or (get_or (padded width rs) k []) j 0) where
      -- The byte of the row is the word's.
      same_byte : (t : Bool) → byte_is b s end ≡ t → byte_is (get_or (word_at rs k) j 0) s end ≡ t
      same_byte t e = ap (λ (x : ℕ). byte_is x s end) (sym (q ∙ row_byte width rs short k j c.row (omega (arith, c.count)))) ∙ e

      -- If it isn't the text's the word isn't there.
      pub compare_stop : byte_is b s end ≡ false → match_lit s (word_at rs k) i ≡ None
      compare_stop e = sym c.rest ∙ lit_stop s (word_at rs k) j end (omega (arith, c.count)) (same_byte false e)

      -- If it is the comparison goes on.
      pub compare_on : byte_is b s end ≡ true → Comparing rs s i k n (end + 1) (j + 1)
      compare_on e = record {
        row = c.row;
        count = c.count;
        rest = sym (lit_on s (word_at rs k) j end (omega (arith, c.count)) (same_byte true e)) ∙ c.rest;
      }

-- ---- tests computed over all numbers below a bound

-- There are as many as the bound says.
count_length : (n a : ℕ) → length (count_up a n) ≡ n
unfolding count_up
count_length zero a = refl
count_length (suc n) a = ap suc (count_length n (suc a))

-- Number k of them is k.
count_at : (n a k d : ℕ) → k < n → get_or (count_up a n) k d ≡ a + k
unfolding count_up
count_at zero a k d h = absurd (omega arith)
count_at (suc n) a zero d h = sym (add-zero a)
count_at (suc n) a (suc k) d h = omega (arith, count_at n (suc a) k d (omega arith))

-- So what a function gives of all of them it gives, at k, of k.
pub each_at : {B : Type 0} (f : ℕ → B) (n k : ℕ) (d : B) → k < n → get_or (map f (count_up 0 n)) k d ≡ f k
each_at f n k d h =
    let inside : k < length (map f (count_up 0 n)) = rw (length_mapped f (count_up 0 n), count_length n 0) h in
    let at : get_or (count_up 0 n) k 0 ≡ k = omega (arith, count_at n 0 k 0 h) in
    get_d_any (map f (count_up 0 n)) k d (f 0) inside ∙ get_or-map f (count_up 0 n) k 0 ∙ ap f at

-- What two functions give of all numbers below a bound, if it is the same, they give of each.
pub same_each : {B : Type 0} (f g : ℕ → B) (n : ℕ) (d : B) → map f (count_up 0 n) ≡ map g (count_up 0 n) → (k : ℕ) → k < n → f k ≡ g k
same_each {B} f g n d e k h = sym (each_at f n k d h) ∙ ap (λ (l : List B). get_or l k d) e ∙ each_at g n k d h
