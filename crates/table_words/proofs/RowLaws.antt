-- Rows tried in turn: one row after another, rows that can be left out since their words don't stand in the text, and the first that fits.
-- Rests on the definition of `try_words` and of `match_lit`.
use Rattle.std.specs.Prelude.{Option, Some, None}
use Prim.Native.Nat.{ℕ, zero, suc, ◌+◌, ◌≤◌, ◌<◌}
use Prim.Native.String.{String}
use mathlib.Core.Path.{◌≡◌, refl, sym, ap, ◌∙◌}
use mathlib.Core.Bool.{Bool, true, false, not, ◌&&◌, ◌||◌, false≢true}
use mathlib.Core.List.{List, [], ◌∷◌}
use native.Mathlib.Numerals.{add-one}
use native.Mathlib.Omega.{arith}
use lib.Dec.{eqb}
use lib.ListN.{length, get_or, drop, take, drop_of_length-le, length-take}
use lib.Seq.{slice, slice-cons, drop-cons}
use borrow.Author.Tests.{lt-ltb, le-ltb, not-false, eqb-true, eqb-false, eq-eqb, ne_eqb}
use Rattle.definition.specs.Basics.{Bytes}
use Rattle.definition.specs.Text.{byte_is}
use Rattle.definition.specs.Tables.{cps}
use Rattle.definition.specs.Matchers.{match_lit}
use Rattle.definition.specs.Select.{none_at, keep, found, try_words}
use Rattle.definition.specs.declared.Choice.{Choice}
use Rattle.lemmas.proofs.Cases.{by_outcome, by_test, by_order, by_if_lt, both, never}
use Rattle.laws_progress.proofs.Walks.{byte_passes}
use Rattle.match_lit.proofs.ByteLaws.{has_within, has_past}
use Rattle.table_words.specs.Rows.{Row, numbered, try_rows, first_fit, only_rows, starts_with, starts_two}

-- no row
abbrev pub no_row : Row
no_row = (0, [])

-- the word of row k
abbrev pub word_at : List Row → ℕ → Bytes
word_at rs k = (get_or rs k no_row).1

-- ---- rows in turn

-- The better of two choices ends no sooner than the first.
pub keep_later : (best new : Choice) {i : ℕ} → i ≤ best.end → i ≤ (keep best new).end
unfolding keep
keep_later best new {i} h = by_if_lt (λ (c : Choice). i ≤ c.end) best.end new.end (λ k. omega arith) (λ k. h)

-- Nothing is chosen before i.
pub none_start : {b : Choice} {i : ℕ} → b ≡ none_at i → i ≤ b.end
none_start {b} {i} e = rw e (omega arith)

module _ (i place : ℕ) (m : Bytes → Option ℕ) where
  -- The definition tries the rows of its table.
  pub words_rows : (w : ℕ) (es : List String) (best : Choice) → try_words i place m w es best ≡ try_rows i place m (numbered w es) best
  unfolding try_words try_rows
  words_rows w [] best = refl
  words_rows w (e ∷ es) best = words_rows (suc w) es (keep best (found i place w (m (cps e))))

  -- A word that isn't there leaves the best as it is.
  keep_none : (best : Choice) (w : ℕ) {n : Option ℕ} → n ≡ None → i ≤ best.end → keep best (found i place w n) ≡ best
  unfolding keep
  keep_none best w e h = rw (e, le-ltb best.end i h)

  module _ (rs : List Row) (k to : ℕ) (best : Choice) (h : k < to) (l : to ≤ length rs) where
    -- Row k is tried before those after it.
    row_first : try_rows i place m (slice k to rs) best ≡ try_rows i place m (slice (k + 1) to rs) (keep best (found i place (get_or rs k no_row).0 (m (word_at rs k))))
    unfolding try_rows
    row_first = rw (slice-cons k to rs no_row h l, add-one k)

    -- A row whose word isn't there is passed over.
    pub row_skip : m (word_at rs k) ≡ None → i ≤ best.end → try_rows i place m (slice (k + 1) to rs) best ≡ try_rows i place m (slice k to rs) best
    row_skip e b = sym (row_first ∙ ap (try_rows i place m (slice (k + 1) to rs)) (keep_none best (get_or rs k no_row).0 e b))

    -- One whose word is there goes on with the better of its end and the best so far.
    pub row_take : {e n : ℕ} {c : Choice} → m (word_at rs k) ≡ Some e → n ≡ (get_or rs k no_row).0 → c ≡ keep best (record { place = place; end = e; word = n })
        → try_rows i place m (slice (k + 1) to rs) c ≡ try_rows i place m (slice k to rs) best
    row_take {e} {n} q z t =
        let f : keep best (found i place (get_or rs k no_row).0 (m (word_at rs k))) ≡ keep best (record { place = place; end = e; word = n }) = rw (q, z) in
        ap (try_rows i place m (slice (k + 1) to rs)) (t ∙ sym f) ∙ sym row_first

  -- After the last row the best is the answer.
  pub row_done : (rs : List Row) (k to : ℕ) (best : Choice) → to ≤ k → try_rows i place m (slice k to rs) best ≡ best
  unfolding try_rows
  row_done rs k to best h =
      let short : length (take to rs) ≤ k = simp length-take (omega arith) in
      rw (drop_of_length-le (take to rs) {i = k} short)

  -- Rows whose words aren't there can be left out.
  pub rows_left : (q : Row → Bool) → ((r : Row) → q r ≡ false → m r.1 ≡ None) → (rs : List Row) (best : Choice) → i ≤ best.end
      → try_rows i place m rs best ≡ try_rows i place m (only_rows q rs) best
  unfolding try_rows
  rows_left q none [] best h = refl
  rows_left q none (r ∷ rs) best h =
      by_outcome (q r)
      (λ t. rw (t, only_rows) (rows_left q none rs (keep best (found i place r.0 (m r.1))) (keep_later best (found i place r.0 (m r.1)) h)))
      (λ t. rw (t, only_rows, keep_none best r.0 (none r t) h) (rows_left q none rs best h))

  -- Where all rows of a table can be left out nothing is chosen.
  pub all_left : (q : Row → Bool) → ((r : Row) → q r ≡ false → m r.1 ≡ None) → (es : List String) → only_rows q (numbered 0 es) ≡ []
      → try_words i place m 0 es (none_at i) ≡ none_at i
  unfolding try_rows
  all_left q none es e =
      words_rows 0 es (none_at i)
      ∙ rows_left q none (numbered 0 es) (none_at i) (omega arith)
      ∙ ap (λ (rs : List Row). try_rows i place m rs (none_at i)) e

  -- A single row whose word isn't there gives nothing.
  pub row_missing : (r : Row) → m r.1 ≡ None → try_rows i place m (r ∷ []) (none_at i) ≡ none_at i
  unfolding try_rows
  row_missing r q = keep_none (none_at i) r.0 q (omega arith)

  -- A single row is what is found of it, where that is past i.
  pub row_alone : (r : Row) {e : ℕ} → m r.1 ≡ Some e → i < e → try_rows i place m (r ∷ []) (none_at i) ≡ record { place = place; end = e; word = r.0 }
  unfolding try_rows keep
  row_alone r {e} q h = rw (q, lt-ltb i e h)

-- ---- words that are there, and words that aren't

-- a word of a byte or more
abbrev pub is_empty : Bytes → Bool
is_empty [] = true
is_empty (c ∷ l) = false

-- a word of a byte at most
abbrev pub is_short : Bytes → Bool
is_short [] = true
is_short (c ∷ []) = true
is_short (c ∷ d ∷ l) = false

-- a word of two bytes or more, whose first two pass a test
abbrev begins_two : (ℕ → ℕ → Bool) → Bytes → Bool
begins_two t [] = false
begins_two t (c ∷ []) = false
begins_two t (c ∷ d ∷ l) = t c d

-- the words of all rows are such
abbrev pub all_begin : (ℕ → ℕ → Bool) → List Row → Bool
all_begin t [] = true
all_begin t (r ∷ rs) = begins_two t r.1 && all_begin t rs

-- Then a word that may stand where the bytes a and b do shows that these pass it,
begins_passes : (t : ℕ → ℕ → Bool) (a b : ℕ) (w : Bytes) → begins_two t w ≡ true → starts_two a b w ≡ true → t a b ≡ true
begins_passes t a b [] e q = never e
begins_passes t a b (c ∷ []) e q = never e
begins_passes t a b (c ∷ d ∷ l) e q =
    let h = both (eqb c a) (eqb d b) q in
    sym (ap (λ (x : ℕ). t x b) (eqb-true c a h.0)) ∙ sym (ap (t c) (eqb-true d b h.1)) ∙ e

-- so none may stand where two bytes do that don't.
pub none_begins : (t : ℕ → ℕ → Bool) (a b : ℕ) (rs : List Row) → all_begin t rs ≡ true → t a b ≡ false → only_rows (λ r. starts_two a b r.1) rs ≡ []
none_begins t a b [] e n = refl
none_begins t a b (r ∷ rs) e n =
    let g = both (begins_two t r.1) (all_begin t rs) e in
    by_outcome (starts_two a b r.1)
    (λ q. never (sym n ∙ begins_passes t a b r.1 g.0 q))
    (λ q. rw (q, only_rows) (none_begins t a b rs g.1 n))

-- a word may stand where the byte b doesn't
abbrev pub starts_other : ℕ → Bytes → Bool
starts_other b [] = true
starts_other b (c ∷ l) = not (eqb c b)

-- one word begins another
abbrev begins : Bytes → Bytes → Bool
begins [] v = true
begins (c ∷ w) [] = false
begins (c ∷ w) (d ∷ v) = elim (eqb c d) [ true ↦ begins w v | false ↦ false ]

-- one of two words begins the other
abbrev pub touches : Bytes → Bytes → Bool
touches w v = begins w v || begins v w

module _ (s : Bytes) where
  -- Past the end no word is.
  pub past_end : (i : ℕ) → length s ≤ i → (w : Bytes) → is_empty w ≡ false → match_lit s w i ≡ None
  unfolding match_lit
  past_end i h [] e = absurd (false≢true (sym e))
  past_end i h (c ∷ l) e = rw (has_past (λ x. eqb x c) s i h, match_lit)

  -- A word with a first byte that isn't the text's isn't there.
  pub other_start : (i : ℕ) → i < length s → (w : Bytes) → starts_with (get_or s i 0) w ≡ false → match_lit s w i ≡ None
  unfolding match_lit
  other_start i h [] e = absurd (false≢true (sym e))
  other_start i h (c ∷ l) e =
      let n : byte_is c s i ≡ false = has_within (λ x. eqb x c) s i h ∙ ne_eqb (get_or s i 0) c (λ q. eqb-false c (get_or s i 0) e (sym q)) in
      rw (n, match_lit)

  -- Nor is one whose first two aren't.
  pub other_two : (i : ℕ) → i < length s → (w : Bytes) → starts_two (get_or s i 0) (get_or s (i + 1) 0) w ≡ false → match_lit s w i ≡ None
  unfolding match_lit
  other_two i h [] e = absurd (false≢true (sym e))
  other_two i h (c ∷ []) e = other_start i h (c ∷ []) e
  other_two i h (c ∷ d ∷ l) e =
      by_outcome (eqb c (get_or s i 0))
      (λ q. by_test (λ n. n ≡ None) (byte_is c s i) (λ _. second (sym (ap (λ (t : Bool). t && eqb d (get_or s (i + 1) 0)) q) ∙ e)) (λ _. refl))
      (λ q. other_start i h (c ∷ d ∷ l) q)
    where
      second : eqb d (get_or s (i + 1) 0) ≡ false → match_lit s (d ∷ l) (i + 1) ≡ None
      second r =
          by_order (i + 1) (length s)
          (λ k. other_start (i + 1) k (d ∷ l) r)
          (λ k. past_end (i + 1) k (d ∷ l) refl)

  -- At the last byte no word of two bytes or more is.
  pub past_two : (i : ℕ) → length s ≤ i + 1 → (w : Bytes) → is_short w ≡ false → match_lit s w i ≡ None
  unfolding match_lit
  past_two i h [] e = absurd (false≢true (sym e))
  past_two i h (c ∷ []) e = absurd (false≢true (sym e))
  past_two i h (c ∷ d ∷ l) e = by_test (λ n. n ≡ None) (byte_is c s i) (λ _. past_end (i + 1) h (d ∷ l) refl) (λ _. refl)

  -- Where a byte isn't there no word is that begins with it.
  pub missing_start : (i b : ℕ) → byte_is b s i ≡ false → (w : Bytes) → starts_other b w ≡ false → match_lit s w i ≡ None
  unfolding match_lit
  missing_start i b n [] e = absurd (false≢true (sym e))
  missing_start i b n (c ∷ l) e =
      let same : c ≡ b = eqb-true c b (not-false (eqb c b) e) in
      let no : byte_is c s i ≡ false = rw same n in
      rw (no, match_lit)

  -- A word ends as far after its start as it is long.
  pub lit_end : (w : Bytes) (i : ℕ) {e : ℕ} → match_lit s w i ≡ Some e → e ≡ i + length w
  unfolding match_lit
  lit_end [] i {e} q = let z : i ≡ e = cc in omega arith
  lit_end (c ∷ l) i {e} q =
      by_test (λ n. n ≡ Some e → e ≡ i + suc (length l)) (byte_is c s i)
      (λ _ r. omega (arith, lit_end l (i + 1) r))
      (λ _ r. absurd (let z : ◌≡◌ {A = ℕ} 0 1 = cc in omega arith))
      q

  -- Of two words that are there one begins the other.
  both_there : (w v : Bytes) (i : ℕ) {e f : ℕ} → match_lit s w i ≡ Some e → match_lit s v i ≡ Some f → touches w v ≡ true
  unfolding match_lit
  both_there [] v i p q = refl
  both_there (c ∷ w) [] i p q = refl
  both_there (c ∷ w) (d ∷ v) i {e} {f} p q =
      by_test (λ n. n ≡ Some e → touches (c ∷ w) (d ∷ v) ≡ true) (byte_is c s i)
      (λ t x. by_test (λ n. n ≡ Some f → touches (c ∷ w) (d ∷ v) ≡ true) (byte_is d s i)
      (λ u y. let same : c ≡ d = sym (eqb-true (get_or s i 0) c (byte_passes (λ x. eqb x c) s i t).1) ∙ eqb-true (get_or s i 0) d (byte_passes (λ x. eqb x d) s i u).1 in
      rw (eq-eqb c d same, begins) (rw (eq-eqb d c (sym same), begins) (both_there w v (i + 1) x y)))
      (λ _ y. absurd (let z : ◌≡◌ {A = ℕ} 0 1 = cc in omega arith)) q)
      (λ _ x. absurd (let z : ◌≡◌ {A = ℕ} 0 1 = cc in omega arith))
      p

  -- So where a word is there, one that it doesn't touch is not.
  pub apart : (w v : Bytes) (i : ℕ) {e : ℕ} → match_lit s w i ≡ Some e → touches w v ≡ false → match_lit s v i ≡ None
  apart w v i p n = go (match_lit s v i) refl
    where
      go : (x : Option ℕ) → match_lit s v i ≡ x → x ≡ None
      go (Some f) q = absurd (false≢true (sym n ∙ both_there w v i p q))
      go None q = refl

  -- ---- the first that fits

  module _ (i : ℕ) where
    -- A word that is there is the first.
    fit_here : (rs : List Row) (k : ℕ) {e : ℕ} → k < length rs → match_lit s (word_at rs k) i ≡ Some e → first_fit s i (drop k rs) ≡ 0
    unfolding first_fit
    fit_here rs k h q = rw (drop-cons rs k no_row h) (rw (q, first_fit))

    -- One that isn't is not.
    fit_next : (rs : List Row) (k : ℕ) → k < length rs → match_lit s (word_at rs k) i ≡ None
        → first_fit s i (drop k rs) ≡ suc (first_fit s i (drop (k + 1) rs))
    unfolding first_fit
    fit_next rs k h q = rw (drop-cons rs k no_row h, add-one k) (rw (q, first_fit))

    -- After the last row none is left.
    fit_done : (rs : List Row) (k : ℕ) → length rs ≤ k → first_fit s i (drop k rs) ≡ 0
    unfolding first_fit
    fit_done rs k h = rw (drop_of_length-le rs {i = k} h)

    module _ (rs : List Row) (k : ℕ) where
      -- With a word that isn't there the search goes on at the next,
      pub next_word : k < length rs → match_lit s (word_at rs k) i ≡ None → k + first_fit s i (drop k rs) ≡ first_fit s i rs
          → k + 1 + first_fit s i (drop (k + 1) rs) ≡ first_fit s i rs
      next_word h q inv = omega (arith, inv, fit_next rs k h q)

      -- with one that is it ends,
      pub this_word : {e : ℕ} → k < length rs → match_lit s (word_at rs k) i ≡ Some e → k + first_fit s i (drop k rs) ≡ first_fit s i rs → k ≡ first_fit s i rs
      this_word h q inv = omega (arith, inv, fit_here rs k h q)

      -- and after the last word too.
      pub none_left : length rs ≤ k → k + first_fit s i (drop k rs) ≡ first_fit s i rs → k ≡ first_fit s i rs
      none_left h inv = omega (arith, inv, fit_done rs k h)

    -- The word of the first that fits is there.
    pub fit_there : (rs : List Row) → first_fit s i rs < length rs → match_lit s (word_at rs (first_fit s i rs)) i ≡ Some (i + length (word_at rs (first_fit s i rs)))
    unfolding first_fit
    fit_there [] h = absurd (omega arith)
    fit_there (r ∷ rs) h = go (match_lit s r.1 i) refl (fit_there rs) h
      where
        go : (x : Option ℕ) → match_lit s r.1 i ≡ x → (first_fit s i rs < length rs → match_lit s (word_at rs (first_fit s i rs)) i ≡ Some (i + length (word_at rs (first_fit s i rs))))
            → elim x [ Some e ↦ zero | None ↦ suc (first_fit s i rs) ] < suc (length rs)
            → match_lit s (word_at (r ∷ rs) (elim x [ Some e ↦ zero | None ↦ suc (first_fit s i rs) ])) i
            ≡ Some (i + length (word_at (r ∷ rs) (elim x [ Some e ↦ zero | None ↦ suc (first_fit s i rs) ])))
        go (Some e) q rest h = q ∙ ap Some (lit_end r.1 i q)
        go None q rest h = rest (omega arith)

    -- Where none fits no word is there.
    pub fit_none : (place : ℕ) (m : Bytes → Option ℕ) → ((w : Bytes) → match_lit s w i ≡ None → m w ≡ None)
        → (rs : List Row) → length rs ≤ first_fit s i rs → try_rows i place m rs (none_at i) ≡ none_at i
    unfolding first_fit try_rows
    fit_none place m none [] h = refl
    fit_none place m none (r ∷ rs) h = go (match_lit s r.1 i) refl (fit_none place m none rs) h
      where
        go : (x : Option ℕ) → match_lit s r.1 i ≡ x → (length rs ≤ first_fit s i rs → try_rows i place m rs (none_at i) ≡ none_at i)
            → suc (length rs) ≤ elim x [ Some e ↦ zero | None ↦ suc (first_fit s i rs) ]
            → try_rows i place m rs (keep (none_at i) (found i place r.0 (m r.1))) ≡ none_at i
        go (Some e) q rest h = absurd (omega arith)
        go None q rest h = rw (keep_none i place m (none_at i) r.0 (none r.1 q) (omega arith)) (rest (omega arith))
