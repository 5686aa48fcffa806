-- Words that have another key than a lexeme are not the lexeme, so that they can be passed over. Rests on nothing but the definition.
use Rattle.std.specs.Prelude.{Some, None}
use Prim.Native.Nat.{ℕ, zero, suc, ◌+◌, ◌-◌, ◌≤◌, ◌<◌}
use mathlib.Core.Path.{◌≡◌, refl, sym, ap, ap₂, ◌∙◌}
use mathlib.Core.Bool.{Bool, true, false, ◌&&◌}
use mathlib.Core.List.{List, [], ◌∷◌}
use native.Mathlib.Omega.{arith}
use lib.Dec.{eqb, leb}
use native.Mathlib.Nat.{le_of_suc-le-suc, not-suc-le-zero, add-zero, zero-add}
use lib.ListN.{length, get_or, take, drop, length-drop}
use lib.Seq.{drop-cons, take-nil, drop-nil, drop-drop, get_or-drop}
use borrow.Author.Tests.{eqb-true, eqb-false, leb-true}
use Rattle.definition.specs.Basics.{Bytes, same}
use Rattle.definition.specs.Tables.{keywords, constructors, uoperators}
use Rattle.lemmas.proofs.Cases.{by_bool, by_outcome, both}
use Rattle.table_words.specs.Words.{words}
use Rattle.table_words.proofs.WordLaws.{same_equal}
use Rattle.table_keywords.specs.Places.{place, key, hop, seek, Chain}

-- A word with another key is not the lexeme.
other_key : (w id : Bytes) → (key w ≡ key id → ⊥) → same w id ≡ false
other_key w id n = by_outcome (same w id) (λ e. absurd (n (ap key (same_equal w id e)))) (λ e. e)

-- The place of a key is not before the first word.
hop_grows : (h n : ℕ) (l : List Bytes) → n ≤ hop h n l
unfolding hop
hop_grows h n [] = omega arith
hop_grows h n (w ∷ l) =
    let r = hop_grows h (suc n) l in
    by_bool (λ t. n ≤ elim t as (λ _. ℕ) [ true ↦ n | false ↦ hop h (suc n) l ]) (eqb (key w) h) (λ _. omega arith) (λ _. omega arith)

-- The words before the place of the lexeme's key are not the lexeme.
pub skip : (id : Bytes) (l : List Bytes) (n m : ℕ)
    → place n id (take m l) ≡ place (hop (key id) n l) id (take (n + m - hop (key id) n l) (drop (hop (key id) n l - n) l))
unfolding hop place
skip id [] n m = rw (take-nil, drop-nil, take-nil)
skip id (w ∷ l) n m =
    by_bool
    (λ t.
    let j : ℕ = elim t as (λ _. ℕ) [ true ↦ n | false ↦ hop (key id) (suc n) l ] in
    t ≡ eqb (key w) (key id) → place n id (take m (w ∷ l)) ≡ place j id (take (n + m - j) (drop (j - n) (w ∷ l))))
    (eqb (key w) (key id))
    (λ q _. here)
    (λ q _. past m (other_key w id (eqb-false (key w) (key id) q)) (skip id l (suc n)))
    refl
  where
    here : place n id (take m (w ∷ l)) ≡ place n id (take (n + m - n) (drop (n - n) (w ∷ l)))
    here =
        let a : n + m - n ≡ m = omega arith in
        let b : n - n ≡ 0 = omega arith in
        rw (a, b)

    past : (m : ℕ) → same w id ≡ false
        → ((m : ℕ) → place (suc n) id (take m l) ≡ place (hop (key id) (suc n) l) id (take (suc n + m - hop (key id) (suc n) l) (drop (hop (key id) (suc n) l - suc n) l)))
        → place n id (take m (w ∷ l)) ≡ place (hop (key id) (suc n) l) id (take (n + m - hop (key id) (suc n) l) (drop (hop (key id) (suc n) l - n) (w ∷ l)))
    past zero e rest =
        let g = hop_grows (key id) (suc n) l in
        let a : n + 0 - hop (key id) (suc n) l ≡ 0 = omega arith in
        rw a
    past (suc m) e rest =
        let g = hop_grows (key id) (suc n) l in
        let a : n + suc m - hop (key id) (suc n) l ≡ suc n + m - hop (key id) (suc n) l = omega arith in
        let b : hop (key id) (suc n) l - n ≡ suc (hop (key id) (suc n) l - suc n) = omega arith in
        rw (e, place, a, b) (rest m)

-- At the place of a key stands a word with it.
hop_key : (h n : ℕ) (l : List Bytes) → hop h n l < n + length l → key (get_or l (hop h n l - n) []) ≡ h
unfolding hop
hop_key h n [] q = absurd (omega arith)
hop_key h n (w ∷ l) q = by_outcome (eqb (key w) h) here (past (hop_key h (suc n) l))
  where
    here : eqb (key w) h ≡ true → key (get_or (w ∷ l) (hop h n (w ∷ l) - n) []) ≡ h
    here e =
        let z : n - n ≡ 0 = omega arith in
        rw (hop, e, z) (eqb-true (key w) h e)

    past : (hop h (suc n) l < suc n + length l → key (get_or l (hop h (suc n) l - suc n) []) ≡ h) → eqb (key w) h ≡ false
        → key (get_or (w ∷ l) (hop h n (w ∷ l) - n) []) ≡ h
    past rest e =
        let j : hop h n (w ∷ l) ≡ hop h (suc n) l = rw (hop, e) in
        let g = hop_grows h (suc n) l in
        let z : hop h (suc n) l - n ≡ suc (hop h (suc n) l - suc n) = omega arith in
        rw (j, z) (rest (omega arith))

-- ---- the words of the tables

pub words_count : length words ≡ 119
unfolding words keywords constructors uoperators
words_count = refl

-- The words before that of the lexeme's key can be passed over.
seek_skip : (id : Bytes) (k stop : ℕ) → k ≤ stop → seek id k stop ≡ seek id (hop (key id) k (drop k words)) stop
seek_skip id k stop h =
    let j = hop (key id) k (drop k words) in
    let g = hop_grows (key id) k (drop k words) in
    let a : k + (stop - k) - j ≡ stop - j = omega arith in
    let b : k + (j - k) ≡ j = omega arith in
    skip id (drop k words) k (stop - k)
    ∙ ap₂ (λ (m : ℕ) (l : List Bytes). place j id (take m l)) a (drop-drop (j - k) k words ∙ ap (λ (m : ℕ). drop m words) b)

-- That word has the key.
keyed_at : (h k : ℕ) → k ≤ 119 → hop h k (drop k words) < 119 → key (get_or words (hop h k (drop k words)) []) ≡ h
keyed_at h k l q =
    let j = hop h k (drop k words) in
    let g = hop_grows h k (drop k words) in
    let b : k + (j - k) ≡ j = omega arith in
    let n : j < k + length (drop k words) = rw (length-drop k words, words_count) (omega arith) in
    ap (λ (m : ℕ). key (get_or words m [])) (sym b) ∙ ap key (sym (get_or-drop k words (j - k) [])) ∙ hop_key h k (drop k words) n

-- What is looked for is looked for from k on, where a word with the lexeme's key stands.
pub record Seeking (id : Bytes) (from stop k : ℕ) : Type 0 where
  pub ends : stop ≤ 119
  pub rest : seek id k stop ≡ seek id from stop
  pub keyed : k < 119 → key (get_or words k []) ≡ key id

pub seeking_starts : {id : Bytes} {start stop : ℕ} → Chain id start stop → Seeking id start stop start
seeking_starts c = record { ends = c.ends; rest = refl; keyed = c.keyed }

module _ {id : Bytes} {from stop k : ℕ} (s : Seeking id from stop k) where
  -- The word at k decides first.
  at_word : k < stop → seek id k stop ≡ elim (same (get_or words k []) id) [ true ↦ Some k | false ↦ seek id (suc k) stop ]
  unfolding place
  at_word h =
      let e = s.ends in
      let n : k < length words = rw words_count (omega arith) in
      let a : stop - k ≡ suc (stop - suc k) = omega arith in
      ap₂ (λ (m : ℕ) (l : List Bytes). place k id (take m l)) a (drop-cons words k [] n)

  pub seeking_found : k < stop → same (get_or words k []) id ≡ true → Some k ≡ seek id from stop
  seeking_found h e = sym (rw e at (at_word h)) ∙ s.rest

  pub seeking_goes_on : k < stop → same (get_or words k []) id ≡ false → Seeking id from stop (hop (key (get_or words k [])) (suc k) (drop (suc k) words))
  seeking_goes_on h e =
      let q = s.ends in
      let l : k < 119 = omega arith in
      rw (s.keyed l)
      (record { ends = q; rest = sym (seek_skip id (suc k) stop h) ∙ sym (rw e at (at_word h)) ∙ s.rest; keyed = keyed_at (key id) (suc k) (omega arith) })

  pub seeking_ends : stop ≤ k → None ≡ seek id from stop
  unfolding place
  seeking_ends h =
      let z : stop - k ≡ 0 = omega arith in
      ap (λ (m : ℕ). place k id (take m (drop k words))) (sym z) ∙ s.rest

-- The next place is a later one.
pub next_later : (k : ℕ) → k < hop (key (get_or words k [])) (suc k) (drop (suc k) words)
next_later k = hop_grows (key (get_or words k [])) (suc k) (drop (suc k) words)

-- ---- the tables of places

-- every number is at most b
abbrev all_up_to : ℕ → List ℕ → Bool
all_up_to b [] = true
all_up_to b (x ∷ l) = leb x b && all_up_to b l

pub up_to_at : (b : ℕ) (l : List ℕ) → all_up_to b l ≡ true → (k : ℕ) → get_or l k 0 ≤ b
up_to_at b [] e k = omega arith
up_to_at b (x ∷ l) e zero = leb-true x b (both (leb x b) (all_up_to b l) e).0
up_to_at b (x ∷ l) e (suc k) = up_to_at b l (both (leb x b) (all_up_to b l) e).1 k

-- after each word, the next one with its key, the first word being numbered n
unfoldable pub nexts : ℕ → List Bytes → List ℕ
nexts n [] = []
nexts n (w ∷ l) = hop (key w) (suc n) l ∷ nexts (suc n) l

nexts_at : (l : List Bytes) (n k : ℕ) → k < length l → get_or (nexts n l) k 0 ≡ hop (key (get_or l k [])) (suc (n + k)) (drop (suc k) l)
unfolding nexts
nexts_at [] n k h = absurd (not-suc-le-zero h)
nexts_at (w ∷ l) n zero h = ap (λ (m : ℕ). hop (key w) (suc m) l) (sym (add-zero n))
nexts_at (w ∷ l) n (suc k) h =
    let e : suc n + k ≡ n + suc k = omega arith in
    nexts_at l (suc n) k (le_of_suc-le-suc h) ∙ ap (λ (m : ℕ). hop (key (get_or l k [])) (suc m) (drop (suc k) l)) e

pub next_at : (k : ℕ) → k < 119 → get_or (nexts 0 words) k 0 ≡ hop (key (get_or words k [])) (suc k) (drop (suc k) words)
next_at k h =
    let n : k < length words = rw words_count h in
    nexts_at words 0 k n ∙ ap (λ (m : ℕ). hop (key (get_or words k [])) (suc m) (drop (suc k) words)) (zero-add k)

-- for m keys from n on, the first word from `from` on that has it
unfoldable pub firsts : ℕ → ℕ → ℕ → List ℕ
firsts from n zero = []
firsts from n (suc m) = hop n from (drop from words) ∷ firsts from (suc n) m

firsts_at : (from n m h : ℕ) → h < m → get_or (firsts from n m) h 0 ≡ hop (n + h) from (drop from words)
unfolding firsts
firsts_at from n zero h l = absurd (not-suc-le-zero l)
firsts_at from n (suc m) zero l = ap (λ (x : ℕ). hop x from (drop from words)) (sym (add-zero n))
firsts_at from n (suc m) (suc h) l =
    let e : suc n + h ≡ n + suc h = omega arith in
    firsts_at from (suc n) m h (le_of_suc-le-suc l) ∙ ap (λ (x : ℕ). hop x from (drop from words)) e

pub key_small : (w : Bytes) → key w < 64
unfolding key
key_small w = omega arith

-- The key of nothing.
pub key_empty : (s : Bytes) → length s ≡ 0 → 0 ≡ key s
unfolding key
key_empty [] e = refl
key_empty (x ∷ s) e = absurd (omega arith)

pub first_at : (from : ℕ) (id : Bytes) → get_or (firsts from 0 64) (key id) 0 ≡ hop (key id) from (drop from words)
first_at from id = firsts_at from 0 64 (key id) (key_small id) ∙ ap (λ (x : ℕ). hop x from (drop from words)) (zero-add (key id))

-- ---- from the first word with the lexeme's key

module _ (id : Bytes) (from stop start : ℕ) (begins : start ≡ hop (key id) from (drop from words)) (within : from ≤ stop) (ends : stop ≤ 119) where
  pub chain_begins : Chain id start stop
  chain_begins = rw begins (record { ends = ends; keyed = keyed_at (key id) from (omega arith) })

  -- What is found from there on is what is found in the whole table.
  pub seek_table : seek id start stop ≡ seek id from stop
  seek_table = rw begins (sym (seek_skip id from stop within))
