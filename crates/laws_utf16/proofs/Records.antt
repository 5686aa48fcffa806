-- The record of an item whose positions are others, the start sp and the others by q: only the words of its positions differ. Rests on
-- nothing but the definition.
use Prim.Native.Nat.{ℕ, zero, suc, ◌+◌, ◌≤◌}
use mathlib.Core.Path.{◌≡◌, refl, subst, ◌∙◌}
use mathlib.Core.Bool.{true, false}
use mathlib.Core.List.{List, ◌∷◌}
use mathlib.Core.Logic.{inl, inr, ⊎_elim}
use native.Mathlib.Nat.{zero-add}
use native.Mathlib.Omega.{arith}
use lib.ListN.{get_or}
use Rattle.definition.specs.Basics.{Bytes}
use Rattle.definition.specs.Item.{Step, words}
use Rattle.definition.specs.Utf16.{second_item}
use Rattle.definition.specs.declared.Pos.{Pos}
use Rattle.definition.specs.declared.State.{State}
use Rattle.definition.specs.declared.Item.{Item}
use Rattle.definition.specs.declared.Extra.{Extra}
use Rattle.definition.specs.declared.Extra.TheVariants.{NoExtra, CharLit, Blob, LexError, Comment}
use Rattle.laws_run.specs.Split.{payload_size}
use Rattle.laws_run.specs.Places.{OnEither, ExtraOn}
use Rattle.laws_run.proofs.Buffers.{Measured}
use Rattle.laws_utf16.specs.Same.{pos_at, InPosition}

-- two lists have the same numbers but at indices of which P holds; their first has index n
data But (P : ℕ → Type 0) : ℕ → List ℕ → List ℕ → Type 0 where
  alike : {n : ℕ} {l : List ℕ} → But P n l l
  same : {n x : ℕ} {l m : List ℕ} → But P (suc n) l m → But P n (x ∷ l) (x ∷ m)
  other : {n x y : ℕ} {l m : List ℕ} → P n → But P (suc n) l m → But P n (x ∷ l) (y ∷ m)

but_at : {P : ℕ → Type 0} {n : ℕ} {l m : List ℕ} → But P n l m → (k : ℕ) → (P (n + k) → ⊥) → get_or m k 0 ≡ get_or l k 0
but_at alike k h = refl
but_at {P} (same b) zero h = refl
but_at {P} (same b) (suc k) h = but_at b k (λ p. h (subst P (omega arith) p))
but_at {P} (other p b) zero h = absurd (h (subst P (omega arith) p))
but_at {P} (other p b) (suc k) h = but_at b k (λ p. h (subst P (omega arith) p))

-- the positions in a record r
module _ (r : List ℕ) {l m : List ℕ} {a b c d a' b' c' d' : ℕ} where
  in_range : But (InPosition r) 6 l m → But (InPosition r) 2 (a ∷ b ∷ c ∷ d ∷ l) (a' ∷ b' ∷ c' ∷ d' ∷ m)
  in_range h =
      other {n = 2} (inl (omega arith)) (other {n = 3} (inl (omega arith)) (other {n = 4} (inl (omega arith)) (other {n = 5} (inl (omega arith)) h)))

  in_extra : 2 ≤ get_or r 9 0 → But (InPosition r) 15 l m → But (InPosition r) 11 (a ∷ b ∷ c ∷ d ∷ l) (a' ∷ b' ∷ c' ∷ d' ∷ m)
  in_extra e h =
      other {n = 11} (inr (omega arith))
      (other {n = 12} (inr (omega arith)) (other {n = 13} (inr (omega arith)) (other {n = 14} (inr (omega arith)) h)))

module _ (sp : Pos) (q : Pos → Pos) where
  module _ (t : Item) (used : ℕ) where
    -- both records, by what the item has besides its range
    abbrev with_extra : Extra → Item
    with_extra x = record {
      kind = t.kind;
      sp = t.sp;
      ep = t.ep;
      length = t.length;
      comments = t.comments;
      extra = x;
      from = t.from;
      to = t.to;
    }

    abbrev first_words : Extra → List ℕ
    first_words x = words (with_extra x) used

    abbrev second_words : Extra → List ℕ
    second_words x = words (second_item sp q (with_extra x)) used

    changed : (x : Extra) → But (InPosition (first_words x)) 0 (first_words x) (second_words x)
    changed NoExtra = same (same (in_range (first_words NoExtra) alike))
    changed (CharLit c) = same (same (in_range (first_words (CharLit c)) alike))
    changed (Blob n pos snap) =
        let r = first_words (Blob n pos snap) in
        same (same (in_range r (same (same (same (same (same (in_extra r (omega arith) alike))))))))
    changed (LexError n p1 p2) =
        let r = first_words (LexError n p1 p2) in
        same (same (in_range r (same (same (same (same (same (in_extra r (omega arith) alike))))))))
    changed (Comment closed) = same (same (in_range (first_words (Comment closed)) alike))

    -- Only the words of its positions differ.
    pub other_words : (j : ℕ) → (InPosition (words t used) j → ⊥) → get_or (words (second_item sp q t) used) j 0 ≡ get_or (words t used) j 0
    other_words j h = but_at (changed t.extra) j (rw zero-add h)

    -- Where word 9 says that there are positions besides the range, they are words 11 to 14: P holds of each and of what q makes of it, if it
    -- does of every position on the lines of the two states that the item's positions stand on.
    pub extra_positions : {s : Bytes} {a b : State} (P : Pos → Pos → Type 0) → ((p : Pos) → OnEither s a b p → P p (q p)) → ExtraOn s a b t.extra
        → 2 ≤ get_or (words t used) 9 0
        → P (pos_at (words t used) 11) (pos_at (words (second_item sp q t) used) 11) × P (pos_at (words t used) 13) (pos_at (words (second_item sp q t) used) 13)
    extra_positions {s} {a} {b} P f = go t.extra
      where
        go : (x : Extra) → ExtraOn s a b x → 2 ≤ get_or (first_words x) 9 0
            → P (pos_at (first_words x) 11) (pos_at (second_words x) 11) × P (pos_at (first_words x) 13) (pos_at (second_words x) 13)
        go NoExtra _ h = absurd (omega arith)
        go (CharLit c) _ h = absurd (omega arith)
        go (Blob n pos snap) (x, y) _ = (f pos x, f snap y)
        go (LexError n p1 p2) (x, y) _ = (f p1 x, f p2 y)
        go (Comment true) _ h = absurd (omega arith)
        go (Comment false) _ h = absurd (omega arith)

    -- words 6 to 10 belong to no position
    word_kept : (j : ℕ) → 6 ≤ j → j ≤ 10 → get_or (words (second_item sp q t) used) j 0 ≡ get_or (words t used) j 0
    word_kept j h k = other_words j (⊎_elim (λ p. absurd (omega arith)) (λ p. absurd (omega arith)))

    -- so the record says the same of the payload's length
    same_size : payload_size (words (second_item sp q t) used) ≡ payload_size (words t used)
    unfolding payload_size
    same_size = rw (word_kept 7 (omega arith) (omega arith), word_kept 9 (omega arith) (omega arith), word_kept 10 (omega arith) (omega arith))

  pub same_measured : (t : Step) → Measured t → Measured (record { item = second_item sp q t.item; payload = t.payload; next = t.next })
  same_measured t m = record { size = λ used. same_size t.item used ∙ m.size used }
