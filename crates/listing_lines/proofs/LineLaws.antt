-- Lines, written piece by piece: how long the pieces are, and what one piece more gives. Rests on the laws of buffers that are written
-- over (crate `lemmas`) and of the digits of `show` (crate `number_value`).
use Prim.Native.Nat.{ℕ, zero, suc, ◌+◌, ◌-◌, ◌*◌, ◌/◌, ◌%◌, ◌≤◌, ◌<◌}
use mathlib.Core.Path.{◌≡◌, refl, sym, ap, ap₂, ◌∙◌}
use mathlib.Core.Bool.{Bool, true, ◌&&◌}
use mathlib.Core.List.{List, [], ◌∷◌, ◌++◌, map, append_assoc, append-nil}
use native.Mathlib.Nat.{not-suc-le-zero, le_of_suc-le-suc}
use native.Mathlib.Omega.{arith}
use lib.Dec.{leb}
use lib.ListN.{length, get_or, take, drop, set, length-append, length-take, length-drop}
use Rattle.std.proofs.lemmas.List.{take_at, drop_at, drop-drop, drop-take, take-take}
use borrow.Author.Tests.{leb-true}
use borrow.Rule.Slice.PartMut.{mid_of, put_mid}
use Rattle.definition.specs.Basics.{Bytes, ch}
use Rattle.definition.specs.Utf8.{encode, encode_all}
use Rattle.definition.specs.Tables.{cps}
use Rattle.definition.specs.Kinds.{kind_names}
use Rattle.definition.specs.Numbers.{show}
use Rattle.definition.specs.Item.{record_size}
use Rattle.lemmas.specs.Over.{over, Wrote}
use Rattle.lemmas.proofs.Cases.{by_order, both}
use Rattle.lemmas.proofs.Over.{length_over, stored}
use Rattle.lemmas.proofs.Copies.{write_on}
use Rattle.lemmas.proofs.Tails.{written_after}
use Rattle.number_value.proofs.Digits.{show_last, show_more}
use Rattle.listing_lines.specs.Line.{letter, names, name_of, shown, numbers, head, line, lines}
use Rattle.listing_lines.specs.Writing.{line_most}

-- ---- lengths

-- 1 with k zeros
abbrev tens : ℕ → ℕ
tens zero = 1
tens (suc k) = 10 * tens k

-- a number below that has at most k digits
digits : (k n : ℕ) → n < tens (suc k) → length (show n) ≤ suc k
digits zero n h = omega (arith, ap length (show_last n h))
digits (suc k) n h =
    by_order n 10
    (λ l. omega (arith, ap length (show_last n l)))
    (λ l. let d : n / 10 < tens (suc k) = omega arith in
    omega (arith, digits k (n / 10) d, ap length (show_more n l), length-append (show (n / 10)) ((48 + n % 10) ∷ [])))

-- a word of a record has at most 10
pub word_size : (n : ℕ) → n < 4294967296 → length (show n) ≤ 10
word_size n h = digits 9 n (omega arith)

-- no text of a list is longer than n
abbrev all_within : ℕ → List Bytes → Bool
all_within n [] = true
all_within n (t ∷ ts) = leb (length t) n && all_within n ts

within_at : (n : ℕ) (ts : List Bytes) → all_within n ts ≡ true → (d : Bytes) → length d ≤ n → (k : ℕ) → length (get_or ts k d) ≤ n
within_at n [] e d h k = h
within_at n (t ∷ ts) e d h zero = leb-true (length t) n (both (leb (length t) n) (all_within n ts) e).0
within_at n (t ∷ ts) e d h (suc k) = within_at n ts (both (leb (length t) n) (all_within n ts) e).1 d h k

-- the longest name is PRAGMA_PRINT_EFFECTS_GRAPH
pub name_size : (kind : ℕ) → length (name_of kind) ≤ 26
unfolding name_of names kind_names cps encode_all encode
name_size kind = within_at 26 names refl (cps "-") (omega arith) kind

-- ---- names

-- where there is a name, what stands for a missing one doesn't matter
get_d_any : (ts : List Bytes) (k : ℕ) (d e : Bytes) → k < length ts → get_or ts k d ≡ get_or ts k e
get_d_any [] k d e h = absurd (not-suc-le-zero h)
get_d_any (t ∷ ts) zero d e h = refl
get_d_any (t ∷ ts) (suc k) d e h = get_d_any ts k d e (le_of_suc-le-suc h)

get_d_past : (ts : List Bytes) (k : ℕ) (d : Bytes) → length ts ≤ k → get_or ts k d ≡ d
get_d_past [] k d h = refl
get_d_past (t ∷ ts) zero d h = absurd (not-suc-le-zero h)
get_d_past (t ∷ ts) (suc k) d h = get_d_past ts k d (le_of_suc-le-suc h)

pub name_there : (kind : ℕ) → kind < 174 → get_or names kind [] ≡ name_of kind
unfolding name_of names kind_names
name_there kind h = get_d_any names kind [] (cps "-") h

pub name_missing : (kind : ℕ) → 174 ≤ kind → get_or names 0 [] ≡ name_of kind
unfolding name_of names kind_names
name_missing kind h = sym (get_d_past names kind (cps "-") h)

-- ---- one piece after another

pub wrote_more : {a b l now tail : List ℕ} {at n : ℕ} → Wrote a l now at → Wrote b (mid_of at (length now - at) now) tail n
    → Wrote (a ++ b) l (put_mid at (length now - at) now tail) (at + n)
wrote_more {a} {b} {l} {now} {tail} {at} u w = record {
  all = ap₂ (λ (x y : ℕ). x + y) u.all w.all ∙ sym (length-append a b);
  bytes = written_after l now tail a b at u.bytes u.all w.bytes;
}

pub wrote_length : {a l now : List ℕ} {at : ℕ} → Wrote a l now at → at ≤ length l → length now ≡ length l
wrote_length {a} {l} u h = ap length u.bytes ∙ length_over a l (omega (arith, u.all))

-- what was written lies in the buffer
pub wrote_within : {a l now : List ℕ} {at : ℕ} → Wrote a l now at → at ≤ length now
unfolding over
wrote_within {a} {l} u = omega (arith, u.all, ap length u.bytes, length-append a (drop (length a) l))

-- what is lent of a buffer from `at` on
pub tail_size : (l : List ℕ) (at : ℕ) → length (mid_of at (length l - at) l) ≡ length l - at
tail_size l at = simp (length-take, length-drop) (omega arith)

pub wrote_none : (l : List ℕ) → Wrote [] l l 0
unfolding over
wrote_none l = record { all = refl; bytes = refl }

-- ---- the numbers of a line

-- a blank, and the digits after it
pub number_wrote : {l tail : List ℕ} {n : ℕ} (m : ℕ) → 1 ≤ length l
    → Wrote (show m) (mid_of 1 (length (set l 0 (ch " ")) - 1) (set l 0 (ch " "))) tail n
    → Wrote (ch " " ∷ show m) l (put_mid 1 (length (set l 0 (ch " ")) - 1) (set l 0 (ch " ")) tail) (1 + n)
number_wrote {l} m h w = wrote_more (stored (ch " " ∷ []) (ch " " ∷ []) l refl h) w

-- one number more
numbers_on : (f : ℕ → ℕ) (is : List ℕ) (k : ℕ) → k < length is
    → numbers (map f (take k is)) ++ (ch " " ∷ show (f (get_or is k 0))) ≡ numbers (map f (take (suc k) is))
unfolding numbers
numbers_on f [] k h = absurd (not-suc-le-zero h)
numbers_on f (i ∷ is) zero h = sym (append-nil _)
numbers_on f (i ∷ is) (suc k) h =
    append_assoc (ch " " ∷ show (f i)) (numbers (map f (take k is))) _
    ∙ ap (λ (r : Bytes). (ch " " ∷ show (f i)) ++ r) (numbers_on f is k (le_of_suc-le-suc h))

-- each is an index of a record
abbrev all_below : ℕ → List ℕ → Bool
all_below n [] = true
all_below n (i ∷ is) = leb (suc i) n && all_below n is

below_at : (n : ℕ) (is : List ℕ) → all_below n is ≡ true → (k : ℕ) → 0 < n → get_or is k 0 < n
below_at n [] e k h = h
below_at n (i ∷ is) e zero h = leb-true (suc i) n (both (leb (suc i) n) (all_below n is) e).0
below_at n (i ∷ is) e (suc k) h = below_at n is (both (leb (suc i) n) (all_below n is) e).1 k h

pub shown_below : (k : ℕ) → get_or shown k 0 < record_size
shown_below k = below_at record_size shown refl k (omega arith)

-- the first k of the numbers are written
pub record Numbered (ws before : List ℕ) (at k : ℕ) (after : List ℕ) : Type 0 where
  pub room : 77 ≤ length before
  pub few : k ≤ 7
  pub short : at ≤ 11 * k
  pub wrote : Wrote (numbers (map (λ i. get_or ws i 0) (take k shown))) before after at

pub numbered_starts : (ws l : List ℕ) → 77 ≤ length l → Numbered ws l 0 0 l
unfolding numbers
numbered_starts ws l h = record { room = h; few = omega arith; short = omega arith; wrote = wrote_none l }

module _ {ws l now : List ℕ} {at k : ℕ} (g : Numbered ws l at k now) where
  pub numbered_on : {tail : List ℕ} {n : ℕ} → k < 7
      → Wrote (ch " " ∷ show (get_or ws (get_or shown k 0) 0)) (mid_of at (length now - at) now) tail n × (n ≤ 11)
      → Numbered ws l (at + n) (k + 1) (put_mid at (length now - at) now tail)
  numbered_on {tail} {n} h (w, m) =
      let q : suc k ≡ k + 1 = omega arith in
      record {
        room = g.room;
        few = omega arith;
        short = omega (arith, g.short);
        wrote = rw (← q, ← numbers_on (λ i. get_or ws i 0) shown k h) (wrote_more g.wrote w);
      }

  pub numbered_ends : 7 ≤ k → Wrote (numbers (map (λ i. get_or ws i 0) shown)) l now at × (at ≤ 77)
  numbered_ends h =
      let e : k ≡ 7 = omega (arith, g.few) in
      (rw e at g.wrote, omega (arith, g.short))

-- ---- a line

-- its first two bytes, and the name after them
pub head_wrote : {l tail : List ℕ} {n : ℕ} (ws : List ℕ) (x : ℕ) → x ≡ letter (get_or ws 0 0) → 2 ≤ length l
    → Wrote (name_of (get_or ws 1 0)) (mid_of 2 (length (set (set l 0 x) 1 (ch " ")) - 2) (set (set l 0 x) 1 (ch " "))) tail n
    → Wrote (head ws) l (put_mid 2 (length (set (set l 0 x) 1 (ch " ")) - 2) (set (set l 0 x) 1 (ch " ")) tail) (2 + n) × (2 + n ≤ 28)
head_wrote {l} ws x e h w =
    let u : Wrote (x ∷ ch " " ∷ []) l (set (set l 0 x) 1 (ch " ")) 2 = stored (x ∷ ch " " ∷ []) (x ∷ ch " " ∷ []) l refl h in
    (rw (← e) (wrote_more u w), omega (arith, w.all, name_size (get_or ws 1 0)))

-- its last byte
pub line_wrote : {l now : List ℕ} {at : ℕ} (ws : List ℕ) → Wrote (head ws ++ numbers (map (λ i. get_or ws i 0) shown)) l now at → at < length l
    → Wrote (line ws) l (set now at (ch "\n")) (at + 1)
unfolding line
line_wrote {l} {now} {at} ws u h =
    let ns = numbers (map (λ i. get_or ws i 0) shown) in
    let a = head ws ++ ns in
    let p : a ++ (ch "\n" ∷ []) ≡ line ws = append_assoc (head ws) ns (ch "\n" ∷ []) in
    record {
      all = omega (arith, u.all, length-append a (ch "\n" ∷ []), ap length p);
      bytes =
          ap₂ (λ (m : Bytes) (i : ℕ). set m i (ch "\n")) u.bytes u.all
          ∙ write_on a l (ch "\n") (omega (arith, u.all))
          ∙ ap (λ (b : Bytes). over b l) p;
    }

-- ---- lines

-- one line more
lines_on : (k : ℕ) (rs : List ℕ) → lines k rs ++ line (take record_size (drop (record_size * k) rs)) ≡ lines (suc k) rs
unfolding lines
lines_on zero rs = sym (append-nil _)
lines_on (suc k) rs =
    let q : record_size + record_size * k ≡ record_size * suc k = omega arith in
    append_assoc (line (take record_size rs)) (lines k (drop record_size rs)) _
    ∙ ap (λ (r : Bytes). line (take record_size rs) ++ r)
    (ap (λ (d : List ℕ). lines k (drop record_size rs) ++ line (take record_size d))
    (ap (λ (i : ℕ). drop i rs) (sym q) ∙ sym (drop-drop (record_size * k) record_size rs))
    ∙ lines_on k (drop record_size rs))

-- a part of a list's beginning
take_drop_take : (n i m : ℕ) (l : List ℕ) → i + n ≤ m → take n (drop i (take m l)) ≡ take n (drop i l)
take_drop_take n i m l h =
    let e : i + (m - i) ≡ m = omega arith in
    ap (λ (j : ℕ). take n (drop i (take j l))) (sym e)
    ∙ ap (take n) (drop-take i (m - i) l)
    ∙ take-take n (m - i) (drop i l) (omega arith)

-- the lines of the first k of `count` records are written, and the others are what a chunk of `size` numbers after another is still
-- taken of
pub record Lined (rs before : List ℕ) (count at k size : ℕ) (rest after : List ℕ) : Type 0 where
  pub few : k ≤ count
  pub short : at ≤ line_most * k
  pub wrote : Wrote (lines k rs) before after at
  pub each : size ≡ record_size
  pub left : rest ≡ drop (record_size * k) (take (record_size * count) rs)

pub lined_starts : {rs rest : List ℕ} {count size : ℕ} (l : List ℕ) → size ≡ record_size → rest ≡ take (record_size * count) rs → Lined rs l count 0 0 size rest l
unfolding lines
lined_starts l e p = record { few = omega arith; short = omega arith; wrote = wrote_none l; each = e; left = p }

module _ {rs l now rest : List ℕ} {count at k size : ℕ} (g : Lined rs l count at k size rest now) where
  -- the last record was taken
  pub lined_ends : record_size * count ≤ length rs → length rest < size → Wrote (lines count rs) l now at
  lined_ends h s =
      let n : length (drop (record_size * k) (take (record_size * count) rs)) ≡ record_size * count - record_size * k =
      simp (length-drop, length-take) (omega arith) in
      let e : k ≡ count = omega (arith, n, ap length g.left, g.each, g.few) in
      rw (← e) g.wrote

  module _ (ws others : List ℕ) (h : record_size * count ≤ length rs) (p : rest ≡ ws ++ others) (q : length ws ≡ size) where
    -- the numbers left after the records that have their lines
    left_size : record_size * k + record_size ≤ record_size * count
    left_size =
        let n : length (drop (record_size * k) (take (record_size * count) rs)) ≡ record_size * count - record_size * k =
        simp (length-drop, length-take) (omega arith) in
        omega (arith, n, ap length g.left, ap length p, length-append ws others, q, g.each, g.few)

    -- there is one record more
    pub lined_more : k < count
    lined_more = omega (arith, left_size)

    -- what comes is the next record
    next_record : ws ≡ take record_size (drop (record_size * k) rs)
    next_record =
        sym (take_at ws others record_size (q ∙ g.each))
        ∙ ap (take record_size) (sym p ∙ g.left)
        ∙ take_drop_take record_size (record_size * k) (record_size * count) rs left_size

    next_left : others ≡ drop (record_size * (k + 1)) (take (record_size * count) rs)
    next_left =
        let e : record_size * k + record_size ≡ record_size * (k + 1) = omega arith in
        sym (drop_at ws others record_size (q ∙ g.each))
        ∙ ap (drop record_size) (sym p ∙ g.left)
        ∙ drop-drop record_size (record_size * k) (take (record_size * count) rs)
        ∙ ap (λ (i : ℕ). drop i (take (record_size * count) rs)) e

    pub lined_on : {tail : List ℕ} {n z : ℕ} → z ≡ size
        → Wrote (line ws) (mid_of at (length now - at) now) tail n × (n ≤ line_most)
        → Lined rs l count (at + n) (k + 1) z others (put_mid at (length now - at) now tail)
    lined_on {tail} {n} e (w, m) =
        let j : suc k ≡ k + 1 = omega arith in
        record {
          few = omega (arith, lined_more);
          short = omega (arith, g.short);
          wrote = rw (← j, ← lines_on k rs, ← next_record) (wrote_more g.wrote w);
          each = e ∙ g.each;
          left = next_left;
        }
