-- The turns of a reading, one by one: what holds at its end, and is carried back over each turn, holds of all that the reading takes. So
-- the fuel of `takings` is enough. Rests on what every turn keeps (crate `laws_run`, Steps): each leaves less to read.
use Prim.Native.Nat.{ℕ, zero, suc, ◌<◌}
use mathlib.Core.Path.{◌≡◌, refl, ap, subst}
use mathlib.Core.List.{List, [], ◌∷◌}
use native.Mathlib.Omega.{arith}
use lib.Dec.{eqb}
use borrow.Author.Tests.{eq-eqb, eqb-true, eqb-false}
use Rattle.definition.specs.Basics.{Bytes, again, done}
use Rattle.definition.specs.Select.{select}
use Rattle.definition.specs.Item.{Step}
use Rattle.definition.specs.Comment.{comment}
use Rattle.definition.specs.Token.{TokenTurn, token_turn}
use Rattle.definition.specs.Run.{most_items}
use Rattle.definition.specs.Reading.{Reached, given, carried, skipped as reached_skipped, gave as reached_gave}
use Rattle.definition.specs.declared.State.{State}
use Rattle.lemmas.proofs.Loops.{Leads}
use Rattle.lemmas.proofs.Cases.{by_test}
use Rattle.state.specs.Sound.{Stands}
use Rattle.laws_run.specs.Left.{awake, left}
use Rattle.laws_run.proofs.Moving.{stands_within}
use Rattle.laws_run.proofs.Paths.{Goes, path_reads}
use Rattle.laws_run.proofs.Forms.{Piece, Kept}
use Rattle.laws_run.proofs.FormLaws.{awake_small, awake_yet, piece_kept}
use Rattle.laws_run.proofs.CommentReader.{comment_piece}
use Rattle.laws_run.proofs.Steps.{zero_outside, turn_keeps, reached_stands}
use Rattle.laws_coverage.specs.Coverage.{Taking, skipped, gave, turns, takings}

-- at the end there are no turns
turns_end : (s name f : Bytes) (n : ℕ) (st : State) → st.mode ≡ 2 → turns s name f n st ≡ []
unfolding turns
turns_end s name f zero st m = refl
turns_end s name f (suc n) st m = simp (eq-eqb st.mode 2 m, turns)

module _ (s name f : Bytes) (g : State) where
  -- ---- the turns of a reading that begins from g

  -- it comes to st, outside a comment, and the turn there says x: something is skipped, or an item is given
  pub record Turned (st : State) (x : TokenTurn) : Type 0 where
    pub reached : Reached s name f g st
    pub outside : st.mode ≡ 0
    pub says : token_turn s name f st ≡ x

  -- it comes to st, in a comment, whose next piece is given
  pub record Carried (st : State) : Type 0 where
    pub reached : Reached s name f g st
    pub inside : st.mode ≡ 1

  -- what they keep
  pub turned_keeps : {st : State} {x : TokenTurn} → Turned st x → Leads (Goes s (Unit {0}) st) (Kept s name st) x
  turned_keeps {st} k = subst (Leads (Goes s (Unit {0}) st) (Kept s name st)) k.says (turn_keeps s name f st (zero_outside k.outside))

  pub carried_piece : {st : State} → Carried st → Piece s st.offset st (comment s st.offset st)
  carried_piece {st} k = comment_piece s st.offset st (omega arith) k.inside

  -- the reading hasn't ended there
  pub turned_going : {st : State} {x : TokenTurn} → Turned st x → st.mode ≡ 2 → ⊥
  turned_going {st} k = (zero_outside {st = st} k.outside).going

  pub carried_going : {st : State} → Carried st → st.mode ≡ 2 → ⊥
  carried_going k m = let o = k.inside in absurd (omega arith)

  -- a fact of a state that the reading comes to and of what is taken from there on: it holds at the end, and is carried back over each
  -- turn. After an item that is the last nothing is taken
  pub record CarriedBack (P : State → List Taking → Type 0) : Type 0 where
    pub at_end : {st : State} → st.mode ≡ 2 → P st []
    pub over_skip : {st next : State} {ts : List Taking} → Turned st (again next) → P next ts
        → P st (skipped (select s f st.offset).place st.offset next.offset ∷ ts)
    pub over_item : {st : State} {t : Step} {ts : List Taking} → Turned st (done t) → (t.next.mode ≡ 2 → ts ≡ []) → P t.next ts
        → P st (gave st.offset t ∷ ts)
    pub over_piece : {st : State} {ts : List Taking} → Carried st → P (comment s st.offset st).next ts
        → P st (gave st.offset (comment s st.offset st) ∷ ts)

  module _ (sound : Stands s g) where
    -- every state that the reading comes to is sound
    pub stands : {st : State} → Reached s name f g st → Stands s st
    stands r = reached_stands s name f r sound

    -- ---- each turn leaves less to read

    skip_left : {st next : State} → Turned st (again next) → left s next < left s st
    skip_left {st} {next} k =
        let v = turned_keeps k in
        let q = path_reads v.path in
        let w : awake next.mode ≡ awake st.mode = ap awake q.mode in
        omega (arith, w, q.less (stands_within (stands k.reached)), v.moves tt)

    item_left : {st : State} {t : Step} → Turned st (done t) → left s t.next < left s st
    item_left {st} k = omega (arith, (turned_keeps k).gives.less, awake_yet st.mode (turned_going k))

    piece_left : {st : State} → Carried st → left s (comment s st.offset st).next < left s st
    piece_left {st} k =
        let m = k.inside in
        let p : Kept s name st (comment s st.offset st) = piece_kept ((stands k.reached).sound.opened m) m (carried_piece k) in
        omega (arith, p.gives.less, awake_yet st.mode (carried_going k))

    -- ---- all turns

    module _ {P : State → List Taking → Type 0} (c : CarriedBack P) where
      from_turns : (n : ℕ) (st : State) → Reached s name f g st → left s st < n → P st (turns s name f n st)
      unfolding turns
      from_turns zero st r h = absurd (omega arith)
      from_turns (suc n) st r h = go (from_turns n)
        where
          -- what is taken after this turn
          Rest : Type 0
          Rest = (b : State) → Reached s name f g b → left s b < n → P b (turns s name f n b)

          -- this turn, and what is taken after it
          Both : Taking × State → Type 0
          Both x = P st (x.0 ∷ turns s name f n x.1)

          outside : Rest → st.mode ≡ 0 → (x : TokenTurn) → token_turn s name f st ≡ x
              → Both (elim x [ again next ↦ (skipped (select s f st.offset).place st.offset next.offset, next) | done t ↦ (gave st.offset t, t.next) ])
          outside rest m (again next) e =
              let k : Turned st (again next) = record { reached = r; outside = m; says = e } in
              c.over_skip k (rest next (reached_skipped r m e) (omega (arith, skip_left k)))
          outside rest m (done t) e =
              let k : Turned st (done t) = record { reached = r; outside = m; says = e } in
              c.over_item k (turns_end s name f n t.next) (rest t.next (reached_gave r m e) (omega (arith, item_left k)))

          inside : Rest → st.mode ≡ 1 → Both (gave st.offset (comment s st.offset st), (comment s st.offset st).next)
          inside rest m =
              let k : Carried st = record { reached = r; inside = m } in
              c.over_piece k (rest _ (carried r m) (omega (arith, piece_left k)))

          go : Rest → P st (turns s name f (suc n) st)
          go rest =
              by_test (P st) (eqb st.mode 2)
              (λ e. c.at_end (eqb-true st.mode 2 e))
              (λ e. by_test Both (eqb st.mode 1)
              (λ q. inside rest (eqb-true st.mode 1 q))
              (λ q.
              let m : st.mode ≡ 0 = omega (arith, (stands r).sound.mode, eqb-false st.mode 2 e, eqb-false st.mode 1 q) in
              outside rest m (token_turn s name f st) refl))

    -- What is carried back over each turn holds of all that the reading takes.
    pub by_turns : (P : State → List Taking → Type 0) → CarriedBack P → P g (takings s name f g)
    unfolding takings
    by_turns P c = from_turns c (most_items s g) g given (omega (arith, awake_small g.mode))
