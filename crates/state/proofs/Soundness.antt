-- A state passes the test exactly if it is sound in every clause, and the byte test of `at_character`. Rests on nothing but the definition.
use Prim.Native.Nat.{ℕ, ◌+◌, ◌≤◌, ◌<◌}
use mathlib.Core.Path.{◌≡◌}
use mathlib.Core.Bool.{true, ◌&&◌}
use lib.Dec.{leb, eqb, ltb}
use lib.ListN.{length, get_or}
use borrow.Author.Tests.{le-leb, leb-true, eq-eqb, eqb-true, eqb-false, lt-ltb}
use Rattle.definition.specs.Basics.{Bytes}
use Rattle.definition.specs.Position.{is_continuation}
use Rattle.definition.specs.State.{at_character, offsets_sound, counts_sound, depth_sound, comment_sound, sound}
use Rattle.definition.specs.declared.State.{State}
use Rattle.lemmas.proofs.Cases.{by_if, both, both_true, ltb_leb}
use Rattle.state.specs.Sound.{Sound}

module _ (st : State) where
  -- what the test of depth and comment start says in mode 1
  in_comment : depth_sound st ≡ true → st.mode ≡ 1 → 1 ≤ st.depth
  unfolding depth_sound
  in_comment t m =
      by_if (λ t. t ≡ true → 1 ≤ st.depth) (eqb st.mode 1)
      (λ _ e. leb-true 1 st.depth e)
      (λ n _. absurd (eqb-false st.mode 1 n m)) t

  -- and what it says in any other mode
  out_of_comment : depth_sound st ≡ true → (st.mode ≡ 1 → ⊥) → (st.depth ≡ 0) × ((st.comment.line ≡ 0) × (st.comment.col ≡ 0))
  unfolding depth_sound
  out_of_comment t m =
      by_if (λ t. t ≡ true → (st.depth ≡ 0) × ((st.comment.line ≡ 0) × (st.comment.col ≡ 0))) (eqb st.mode 1)
      (λ y _. absurd (m (eqb-true st.mode 1 y)))
      (λ _ e.
      let p = both (eqb st.depth 0) (eqb st.comment.line 0 && eqb st.comment.col 0) e in
      let q = both (eqb st.comment.line 0) (eqb st.comment.col 0) p.1 in
      (eqb-true st.depth 0 p.0, (eqb-true st.comment.line 0 q.0, eqb-true st.comment.col 0 q.1))) t

-- the test's clauses, each as a fact
pub sound_means : (s : Bytes) (st : State) → sound s st ≡ true → Sound s st
unfolding sound offsets_sound counts_sound comment_sound
sound_means s st t =
    let p = both (offsets_sound s st) (counts_sound st && (depth_sound st && comment_sound st)) t in
    let q = both (at_character s st.offset) (at_character s st.bol && leb st.bol st.offset) p.0 in
    let b = both (at_character s st.bol) (leb st.bol st.offset) q.1 in
    let r = both (counts_sound st) (depth_sound st && comment_sound st) p.1 in
    let l = both (leb st.line (1000000 + st.offset)) (leb st.column 1000000 && (leb (st.comments + st.depth) st.offset && leb st.mode 2)) r.0 in
    let k = both (leb st.column 1000000) (leb (st.comments + st.depth) st.offset && leb st.mode 2) l.1 in
    let n = both (leb (st.comments + st.depth) st.offset) (leb st.mode 2) k.1 in
    let d = both (depth_sound st) (comment_sound st) r.1 in
    let c = both (leb st.comment.line st.line) (leb st.comment.col 2048576) d.1 in
    record {
      offset = q.0;
      bol = b.0;
      order = leb-true st.bol st.offset b.1;
      line = leb-true st.line (1000000 + st.offset) l.0;
      column = leb-true st.column 1000000 k.0;
      comments = leb-true (st.comments + st.depth) st.offset n.0;
      mode = leb-true st.mode 2 n.1;
      opened = in_comment st d.0;
      level = λ m. (out_of_comment st d.0 m).0;
      nowhere = λ m. (out_of_comment st d.0 m).1;
      comment_line = leb-true st.comment.line st.line c.0;
      comment_col = leb-true st.comment.col 2048576 c.1;
    }

-- A state that is sound in every clause passes the test.
pub sound_is : (s : Bytes) (st : State) → Sound s st → sound s st ≡ true
unfolding sound offsets_sound counts_sound depth_sound comment_sound
sound_is s st m =
    both_true _ _
    (both_true _ _ m.offset (both_true _ _ m.bol (le-leb _ _ m.order)))
    (both_true _ _
    (both_true _ _ (le-leb _ _ m.line) (both_true _ _ (le-leb _ _ m.column) (both_true _ _ (le-leb _ _ m.comments) (le-leb _ _ m.mode))))
    (both_true _ _ depths (both_true _ _ (le-leb _ _ m.comment_line) (le-leb _ _ m.comment_col))))
  where
    depths : depth_sound st ≡ true
    depths =
        by_if (λ t. t ≡ true) (eqb st.mode 1)
        (λ y. le-leb _ _ (m.opened (eqb-true st.mode 1 y)))
        (λ n.
        let out : st.mode ≡ 1 → ⊥ = eqb-false st.mode 1 n in
        let p = m.nowhere out in
        both_true _ _ (eq-eqb _ _ (m.level out)) (both_true _ _ (eq-eqb _ _ p.0) (eq-eqb _ _ p.1)))

-- a byte of 80 or more starts a character if it is above BF
pub above_tails : (s : Bytes) (i : ℕ) → i < length s → 0x80 ≤ get_or s i 0 → ltb 0xBF (get_or s i 0) ≡ at_character s i
unfolding at_character is_continuation
above_tails s i h k = rw (lt-ltb i (length s) h, le-leb 0x80 (get_or s i 0) k, at_character) (ltb_leb 0xBF (get_or s i 0))
