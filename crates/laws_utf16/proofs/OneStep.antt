-- One step of the second run: each position of its item is that of the same place as the first run's, and the state after it may be given
-- to a second run too. Rests on where an item's positions stand and on how lines go on (crate `laws_run`, Places).
use Prim.Native.Nat.{ℕ, ◌+◌, ◌≤◌}
use mathlib.Core.Path.{◌≡◌, refl, sym, ap, subst, ◌∙◌}
use mathlib.Core.List.{List, [], ◌∷◌}
use mathlib.Core.Logic.{inl, inr, ⊎_elim}
use native.Mathlib.Omega.{arith}
use lib.Dec.{eqb}
use lib.ListN.{length}
use borrow.Author.Tests.{eqb-true, eqb-false}
use Rattle.definition.specs.Basics.{Bytes}
use Rattle.definition.specs.Item.{Step, words}
use Rattle.definition.specs.Token.{step}
use Rattle.definition.specs.Items.{Steps}
use Rattle.definition.specs.Utf16.{utf16, second_pos, given_at, column_in, second, second_start, second_step, second_next, second_after}
use Rattle.definition.specs.declared.Pos.{Pos}
use Rattle.definition.specs.declared.State.{State}
use Rattle.definition.specs.declared.Utf16State.{Utf16State}
use Rattle.lemmas.proofs.Cases.{by_test, by_if}
use Rattle.state.specs.Sound.{Stands}
use Rattle.laws_run.specs.Places.{On, OnEither, ExtraOn, Placed, PiecePlaced}
use Rattle.laws_run.proofs.Moving.{stands_within}
use Rattle.laws_run.proofs.Steps.{step_stands}
use Rattle.laws_run.proofs.Choosing.{given_stands}
use Rattle.laws_run.proofs.Places.{line_on, either_way, given_lines, step_placed, piece_placed, next_lines, step_lines, comment_start}
use Rattle.laws_utf16.specs.Same.{OfStep, SamePlace, SameStart, SameRecord}
use Rattle.laws_utf16.specs.Accepted.{Utf16Stands}
use Rattle.laws_utf16.proofs.Records.{other_words, extra_positions}
use Rattle.laws_utf16.proofs.Positions.{second_is, second_small}
use Rattle.laws_utf16.proofs.Steps.{rest_of_steps}

-- the second column of a line's start is small
pub start_column : (s : Bytes) (g : Utf16State) → Utf16Stands s g → (b : State) → column_in g b ≤ 1000000
start_column s g h b = by_if (λ (n : ℕ). n ≤ 1000000) (eqb b.line g.first.line) (λ _. h.second.column) (λ _. omega arith)

module _ (s name f : Bytes) (g : Utf16State) (h : Utf16Stands s g) (going : g.first.mode ≡ 2 → ⊥) where
  -- ---- the first run's step, and where it gives its item

  abbrev st : State
  st = g.first

  abbrev t : Step
  t = step s name f st

  abbrev a : State
  a = given_at s name f st

  -- both states are sound, and on no line 0
  given_sound : Stands s a
  given_sound = (given_stands s name f st h.first).0

  next_sound : Stands s t.next
  next_sound = step_stands s name f st h.first going

  given_line : 1 ≤ a.line
  given_line = omega (arith, h.line, (given_lines s name f st).forward)

  next_line : 1 ≤ t.next.line
  next_line = omega (arith, h.line, (step_lines s name f st h.first going).forward)

  -- where its positions stand, between comments and in one
  by_placed : {A : Type 0} → (Placed s a t.next t.item → A) → (st.mode ≡ 1 → PiecePlaced s st t.next t.item → A) → A
  by_placed between inside =
      either_way s name f st h.first going (λ m. between (step_placed s name f st h.first m)) (λ m. inside m (piece_placed s name f st h.first m))

  start_line : 1 ≤ t.item.sp.line
  start_line =
      by_placed
      (λ q. ⊎_elim (λ o. omega (arith, ap (λ (x : Pos). x.line) o.is, given_line)) (λ o. omega (arith, ap (λ (x : Pos). x.line) o.is, next_line)) q.start)
      (λ m q. omega (arith, ap (λ (x : Pos). x.line) q.start, h.comment_line m))

  end_on : On s t.next t.item.ep
  end_on = by_placed (λ q. q.end) (λ _ q. q.end)

  extra_on : ExtraOn s a t.next t.item.extra
  extra_on = by_placed (λ q. q.extra) (λ _ q. subst (ExtraOn s a t.next) (sym q.extra) tt)

  -- ---- the item's positions

  module _ {p : Pos} where
    -- one on the line of a state of the step
    same_on : (b : State) → OfStep s name f g b → Stands s b → 1 ≤ b.line → On s b p → SamePlace s name f g p (second_pos utf16 s b (column_in g b) p)
    same_on b of k l o = record {
      on = b;
      of_step = of;
      place = o.place;
      after = o.after;
      character = o.character;
      first = o.is;
      line = omega (arith, ap (λ (x : Pos). x.line) o.is);
      column = ap (λ (x : Pos). x.col) (second_is k o utf16 (column_in g b));
    }

    -- any: it goes by the line where the item is given, where the next state is on that line too
    same_place : OnEither s a t.next p → SamePlace s name f g p (second utf16 s g a t.next p)
    unfolding second
    same_place o =
        by_if (λ (b : State). SamePlace s name f g p (second_pos utf16 s b (column_in g b) p)) (eqb p.line a.line)
        (λ e. same_on a (inl refl) given_sound given_line (⊎_elim (λ o. o) (λ o. there (sym (line_is o) ∙ eqb-true p.line a.line e) o) o))
        (λ e. same_on t.next (inr refl) next_sound next_line (⊎_elim (λ o. absurd (eqb-false p.line a.line e (line_is o))) (λ o. o) o))
      where
        line_is : {b : State} → On s b p → p.line ≡ b.line
        line_is o = ap (λ (x : Pos). x.line) o.is

        there : t.next.line ≡ a.line → On s t.next p → On s a p
        there e = let l = (next_lines s name f st h.first going).same e in line_on (sym e, sym l.0, sym l.1)

  -- its start: in a comment the comment's
  same_start : SameStart s name f g t.item.sp (second_start utf16 s g a t.next t.item.sp)
  unfolding second_start
  same_start = record {
    outside = λ n.
        by_test (SamePlace s name f g t.item.sp) (eqb st.mode 1) (λ e. absurd (n (eqb-true st.mode 1 e)))
        (λ _. by_placed (λ q. same_place q.start) (λ m _. absurd (n m)));
    inside = λ m.
        by_test (λ (q : Pos). (t.item.sp ≡ st.comment) × (q.line + 1 ≡ t.item.sp.line) × (q.col ≡ g.comment)) (eqb st.mode 1)
        (λ _. ((piece_placed s name f st h.first m).start, omega (arith, start_line), refl)) (λ n. absurd (eqb-false st.mode 1 n m));
  }

  -- The item's record beside the first run's.
  pub same_record : (used : ℕ) → SameRecord s name f g (words (step s name f g.first).item used) (words (second_step utf16 s name f g).item used)
  unfolding second_step
  same_record used =
      let sp = second_start utf16 s g a t.next t.item.sp in
      let q = second utf16 s g a t.next in
      record {
        others = other_words sp q t.item used;
        start = same_start;
        end = same_place (inr end_on);
        extra = extra_positions sp q t.item used (SamePlace s name f g) (λ p o. same_place o) extra_on;
      }

  -- ---- the state after it

  -- second columns are small: of any position, by a line of the step
  column_on : (b : State) → Stands s b → (p : Pos) → (second_pos utf16 s b (column_in g b) p).col ≤ 2048576
  column_on b k p = omega (arith, second_small s b (column_in g b) p (omega (arith, k.sound.order, stands_within k)), start_column s g h b, k.short)

  column_small : (p : Pos) → (second utf16 s g a t.next p).col ≤ 2048576
  unfolding second
  column_small p =
      by_if (λ (b : State). (second_pos utf16 s b (column_in g b) p).col ≤ 2048576) (eqb p.line a.line)
      (λ _. column_on a given_sound p) (λ _. column_on t.next next_sound p)

  -- and so of the item's start
  start_small : (second_start utf16 s g a t.next t.item.sp).col ≤ 2048576
  unfolding second_start
  start_small = by_test (λ (q : Pos). q.col ≤ 2048576) (eqb st.mode 1) (λ _. h.second.comment_col) (λ _. column_small t.item.sp)

  -- The state after the step may be given to a second run.
  pub second_next_stands : Utf16Stands s (second_next utf16 s name f g)
  unfolding second_next second_step
  second_next_stands =
      let m = next_sound.sound in
      record {
        first = next_sound;
        second = record {
          offset = m.offset;
          bol = m.bol;
          order = m.order;
          line = m.line;
          column = start_column s g h t.next;
          comments = m.comments;
          mode = m.mode;
          opened = m.opened;
          level = m.level;
          nowhere = λ n. ((m.nowhere n).0, by_if (λ (c : ℕ). c ≡ 0) (eqb t.next.mode 1) (λ e. absurd (n (eqb-true t.next.mode 1 e))) (λ _. refl));
          comment_line = m.comment_line;
          comment_col = by_if (λ (c : ℕ). c ≤ 2048576) (eqb t.next.mode 1) (λ _. start_small) (λ _. omega arith);
        };
        line = next_line;
        comment_line = λ m. omega (arith, ap (λ (x : Pos). x.line) (comment_start s name f st h.first going m), start_line);
      }

-- So may the state after some steps.
pub second_after_stands : (s name f : Bytes) (g : Utf16State) (ts : List Step) (b : State) → Utf16Stands s g → Steps s name f g.first ts b
    → Utf16Stands s (second_after utf16 s name f (length ts) g)
unfolding second_after
second_after_stands s name f g [] b h e = h
second_after_stands s name f g (t ∷ ts) b h (m, e, rest) =
    second_after_stands s name f (second_next utf16 s name f g) ts b (second_next_stands s name f g h m) (rest_of_steps utf16 s name f g t ts b e rest)
