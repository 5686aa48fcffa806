-- The positions of a record, counted again one after another in the parts of it that are lent. Rests on the laws of places and of lists.
use Rattle.std.specs.Prelude.{Option, Some}
use Prim.Native.Nat.{ℕ, suc, ◌+◌, ◌-◌, ◌≤◌, ◌<◌}
use native.Mathlib.Nat.{add-zero}
use native.Mathlib.Omega.{arith}
use mathlib.Core.Path.{◌≡◌, refl, sym, ap, ap₂, ◌∙◌}
use mathlib.Core.Bool.{true, false}
use mathlib.Core.List.{List, [], ◌∷◌, ◌++◌, append_assoc}
use lib.Dec.{eqb}
use lib.ListN.{length, get_or, take, drop, set, length-take, length-drop}
use lib.Seq.{sets, length-sets, sets-eq, get_or-take, get_or-drop, get_or-set_other, drop-drop}
use borrow.Author.Tests.{le-ltb, lt-ltb}
use borrow.Rule.Slice.PartMut.{put_mid}
use Rattle.definition.specs.Basics.{Bytes}
use Rattle.definition.specs.Item.{record_size, words}
use Rattle.definition.specs.Utf16.{second_item}
use Rattle.definition.specs.declared.Pos.{Pos}
use Rattle.definition.specs.declared.Item.{Item}
use Rattle.definition.specs.declared.Extra.{Extra}
use Rattle.definition.specs.declared.Extra.TheVariants.{NoExtra, CharLit, Blob, LexError, Comment}
use Rattle.lemmas.proofs.Cases.{by_if, by_lt}
use Rattle.utf16_positions.specs.declared.LineStart.{LineStart}
use Rattle.utf16_positions.specs.declared.Tally.{Tally}
use Rattle.utf16_positions.specs.Places.{line_at, second_by, begun_at, Begins, Tallied, Recounts, Recounted}
use Rattle.utf16_positions.specs.Asks.{tally_at, Lines, Position, pos_at, pos_words, again, again_at, extra_again, Again}
use Rattle.utf16_positions.proofs.PlaceLaws.{tallied_at}

-- ---- a position by itself

-- two words that are stored are all of two
two_stored : (r : List ℕ) (x y : ℕ) → length r ≡ 2 → set (set r 0 x) 1 y ≡ x ∷ y ∷ []
two_stored [] x y h = absurd (omega arith)
two_stored (a ∷ []) x y h = absurd (omega arith)
two_stored (a ∷ b ∷ []) x y h = refl
two_stored (a ∷ b ∷ c ∷ r) x y h = absurd (omega arith)

module _ {s : Bytes} {here next : LineStart} {known : Tally} {r : List ℕ} (h : Lines s here next known) (p : Position r) where
  -- its line is one of the two
  pub line_begins : {l : LineStart} (n : ℕ) → l ≡ line_at here next n → Begins s l
  line_begins n e = rw e (by_if (Begins s) (eqb n here.line) (λ _. h.here_begins) (λ _. h.next_begins))

  -- l is its line, and t what is known of it then
  pub position_counted : {l : LineStart} {t : Tally} → l ≡ line_at here next (get_or r 0 0) → t ≡ tally_at s l (get_or r 1 0)
      → Again s (again (second_by s here next)) r t (set (set r 0 (get_or r 0 0 - 1)) 1 t.place.units)
  unfolding second_by
  position_counted {l} {t} e f = record {
    tallied = rw f (tallied_at (get_or r 1 0) (line_begins (get_or r 0 0) e));
    is = two_stored r (get_or r 0 0 - 1) t.place.units p.size ∙ rw (f, e);
  }

  -- where an item begins whose start is carried, nothing is counted
  pub carried : (units : ℕ) → Again s (again (begun_at s here next (Some units))) r known (set (set r 0 (get_or r 0 0 - 1)) 1 units)
  carried units = record { tallied = h.tallied; is = two_stored r (get_or r 0 0 - 1) units p.size }

-- ---- a position in a record

module _ (r : List ℕ) (j : ℕ) (fits : j + 2 ≤ length r) where
  -- the two words that are lent
  part_size : length (take 2 (drop j r)) ≡ 2
  part_size = simp (length-take, length-drop) (omega arith)

  part_pos : pos_at (take 2 (drop j r)) 0 ≡ pos_at r j
  part_pos =
      ap₂ (λ (a b : ℕ). record { line = a; col = b })
      (get_or-take 2 (drop j r) 0 0 (omega arith) ∙ get_or-drop j r 0 0 ∙ ap (λ (k : ℕ). get_or r k 0) (add-zero j))
      (get_or-take 2 (drop j r) 1 0 (omega arith) ∙ get_or-drop j r 1 0)

  part_position : 1 ≤ get_or r j 0 → Position (take 2 (drop j r))
  part_position h = record { size = part_size; line = omega (arith, ap (λ (p : Pos). p.line) part_pos) }

  -- and what comes back of them
  pub part_again : (q : Pos → Pos) (l : List ℕ) → l ≡ again q (take 2 (drop j r)) → put_mid j 2 r l ≡ again_at q j r
  part_again q l e =
      let vs = pos_words (q (pos_at r j)) in
      rw (e, part_pos)
      (ap (λ (m : List ℕ). take j r ++ (vs ++ m)) (drop-drop 2 j r) ∙ sym (sets-eq vs r j fits ∙ append_assoc (take j r) vs (drop (j + 2) r)))

-- the other words stay
again_length : (q : Pos → Pos) (j : ℕ) (r : List ℕ) → length (again_at q j r) ≡ length r
again_length q j r = length-sets r j (pos_words (q (pos_at r j)))

again_other : (q : Pos → Pos) (j : ℕ) (r : List ℕ) (i : ℕ) → (i ≡ j → ⊥) → (i ≡ suc j → ⊥) → get_or (again_at q j r) i 0 ≡ get_or r i 0
again_other q j r i h k =
    let p = q (pos_at r j) in
    get_or-set_other (set r j p.line) (suc j) i p.col 0 k ∙ get_or-set_other r j i p.line 0 h

-- a start and an end that are counted by the same rule
pub both_again : (q : Pos → Pos) (r : List ℕ) → again_at q 4 (again_at q 2 r) ≡ sets r 2 (pos_words (q (pos_at r 2)) ++ pos_words (q (pos_at r 4)))
both_again q r =
    let word : (i : ℕ) → 3 < i → get_or (again_at q 2 r) i 0 ≡ get_or r i 0 = λ i h. again_other q 2 r i (omega arith) (omega arith) in
    let e : pos_at (again_at q 2 r) 4 ≡ pos_at r 4 = ap₂ (λ (a b : ℕ). record { line = a; col = b }) (word 4 (omega arith)) (word 5 (omega arith)) in
    ap (λ (p : Pos). sets (again_at q 2 r) 4 (pos_words (q p))) e

-- with the positions of a blob or an error, too
extra_length : (q : Pos → Pos) (r : List ℕ) → length (extra_again q r) ≡ length r
extra_length q r = by_lt (λ l. length l ≡ length r) 1 (get_or r 9 0) (λ _. again_length q 11 (again_at q 13 r) ∙ again_length q 13 r) (λ _. refl)

extra_other : (q : Pos → Pos) (r : List ℕ) (i : ℕ) → i < 11 → get_or (extra_again q r) i 0 ≡ get_or r i 0
extra_other q r i h =
    by_lt (λ l. get_or l i 0 ≡ get_or r i 0) 1 (get_or r 9 0)
    (λ _. again_other q 11 (again_at q 13 r) i (omega arith) (omega arith) ∙ again_other q 13 r i (omega arith) (omega arith))
    (λ _. refl)

-- ---- the positions of a record, one after another

-- what a record's positions become
turned : (q₀ q : Pos → Pos) (x : Item) (used : ℕ) → again_at q 4 (again_at q₀ 2 (extra_again q (words x used))) ≡ words (second_item (q₀ x.sp) q x) used
turned q₀ q x used = go x.extra
  where
    with : Extra → Item
    with e = record { kind = x.kind; sp = x.sp; ep = x.ep; length = x.length; comments = x.comments; extra = e; from = x.from; to = x.to }

    go : (e : Extra) → again_at q 4 (again_at q₀ 2 (extra_again q (words (with e) used))) ≡ words (second_item (q₀ x.sp) q (with e)) used
    go NoExtra = refl
    go (CharLit c) = refl
    go (Blob n a b) = refl
    go (LexError n a b) = refl
    go (Comment true) = refl
    go (Comment false) = refl

module _ {s : Bytes} {here next : LineStart} {known : Tally} {r : List ℕ} (h : Recounts s here next known r) where
  abbrev q : Pos → Pos
  q = second_by s here next

  -- the position at word j of what the record has become may be counted again
  ready : {t : Tally} (r₁ : List ℕ) (j : ℕ) → Tallied s t → j + 2 ≤ length r₁ → 1 ≤ get_or r₁ j 0 → Lines s here next t × Position (take 2 (drop j r₁))
  ready r₁ j t fits l = (record { here_begins = h.here_begins; next_begins = h.next_begins; tallied = t }, part_position r₁ j fits l)

  -- where all of them were, the record is that of the item with its second positions
  pub all_again : (begun : Option ℕ) {t : Tally} {r' : List ℕ} → Tallied s t
      → r' ≡ again_at q 4 (again_at (begun_at s here next begun) 2 (extra_again q r)) → Recounted s here next begun r t r'
  all_again begun t e =
      let q₀ = begun_at s here next begun in
      record { tallied = t; is = λ x used f. e ∙ ap (λ (l : List ℕ). again_at q 4 (again_at q₀ 2 (extra_again q l))) f ∙ turned q₀ q x used }

  -- no blob and no error
  pub no_extra : get_or r 9 0 ≤ 1 → Again s (extra_again q) r known r
  no_extra n = record { tallied = h.tallied; is = rw (le-ltb 1 (get_or r 9 0) n, extra_again) }

  -- of a blob or an error first the position at word 13
  module _ (n : 1 < get_or r 9 0) where
    in_13 : 13 + 2 ≤ length r
    in_13 = omega (arith, h.size)

    pub to_13 : Lines s here next known × Position (take 2 (drop 13 r))
    to_13 = ready r 13 h.tallied in_13 (h.lines.extra n).1

    -- then the one at word 11
    module _ {t : Tally} {l : List ℕ} (a : Again s (again q) (take 2 (drop 13 r)) t l) where
      after_13 : put_mid 13 2 r l ≡ again_at q 13 r
      after_13 = part_again r 13 in_13 q l a.is

      in_11 : 11 + 2 ≤ length (again_at q 13 r)
      in_11 = omega (arith, h.size, again_length q 13 r)

      pub to_11 : Lines s here next t × Position (take 2 (drop 11 (put_mid 13 2 r l)))
      to_11 =
          rw after_13
          (ready (again_at q 13 r) 11 a.tallied in_11 (omega (arith, (h.lines.extra n).0, again_other q 13 r 11 (omega arith) (omega arith))))

      pub extra_done : {t' : Tally} {m : List ℕ} → Again s (again q) (take 2 (drop 11 (put_mid 13 2 r l))) t' m
          → Again s (extra_again q) r t' (put_mid 11 2 (put_mid 13 2 r l) m)
      extra_done {t'} {m} b =
          let b' = rw after_13 at b in
          let e : put_mid 11 2 (again_at q 13 r) m ≡ again_at q 11 (again_at q 13 r) = part_again (again_at q 13 r) 11 in_11 q m b'.is in
          record { tallied = b.tallied; is = rw (after_13, lt-ltb 1 (get_or r 9 0) n, extra_again) e }

  -- then the position at word 2, where the item begins
  module _ {t : Tally} {r₁ : List ℕ} (a : Again s (extra_again q) r t r₁) where
    size : length r₁ ≡ record_size
    size = ap length a.is ∙ extra_length q r ∙ h.size

    word : (i : ℕ) → i < 11 → get_or r₁ i 0 ≡ get_or r i 0
    word i k = ap (λ (l : List ℕ). get_or l i 0) a.is ∙ extra_other q r i k

    in_2 : 2 + 2 ≤ length r₁
    in_2 = omega (arith, size)

    pub to_2 : Lines s here next t × Position (take 2 (drop 2 r₁))
    to_2 = ready r₁ 2 a.tallied in_2 (omega (arith, h.lines.start, word 2 (omega arith)))

    -- then the one at word 4, where it ends
    module _ (begun : Option ℕ) {t' : Tally} {l : List ℕ} (b : Again s (again (begun_at s here next begun)) (take 2 (drop 2 r₁)) t' l) where
      abbrev q₀ : Pos → Pos
      q₀ = begun_at s here next begun

      after_2 : put_mid 2 2 r₁ l ≡ again_at q₀ 2 r₁
      after_2 = part_again r₁ 2 in_2 q₀ l b.is

      in_4 : 4 + 2 ≤ length (again_at q₀ 2 r₁)
      in_4 = omega (arith, size, again_length q₀ 2 r₁)

      pub to_4 : Lines s here next t' × Position (take 2 (drop 4 (put_mid 2 2 r₁ l)))
      to_4 =
          rw after_2
          (ready (again_at q₀ 2 r₁) 4 b.tallied in_4 (omega (arith, h.lines.end, word 4 (omega arith), again_other q₀ 2 r₁ 4 (omega arith) (omega arith))))

      pub all_done : {t'' : Tally} {m : List ℕ} → Again s (again q) (take 2 (drop 4 (put_mid 2 2 r₁ l))) t'' m
          → Recounted s here next begun r t'' (put_mid 4 2 (put_mid 2 2 r₁ l) m)
      all_done {t''} {m} c =
          let c' = rw after_2 at c in
          let e : put_mid 4 2 (again_at q₀ 2 r₁) m ≡ again_at q 4 (again_at q₀ 2 r₁) = part_again (again_at q₀ 2 r₁) 4 in_4 q m c'.is in
          all_again begun c.tallied (rw after_2 (e ∙ ap (λ (l : List ℕ). again_at q 4 (again_at q₀ 2 l)) a.is))
