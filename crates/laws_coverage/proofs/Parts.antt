-- Where the bytes stand that a turn takes: what is skipped lies ahead; an item begins where it is given, unless it is the last, which is
-- empty: EOF or an ERROR. Rests on the turns (Turns) and on the spans of items (crate `laws_run`, ItemSpans).
use Prim.Native.Nat.{◌≤◌}
use mathlib.Core.Path.{◌≡◌, refl, subst, ◌∙◌}
use mathlib.Core.Logic.{inl, inr}
use native.Mathlib.Omega.{arith}
use lib.ListN.{length}
use Rattle.definition.specs.Basics.{Bytes, again, done}
use Rattle.definition.specs.Select.{select}
use Rattle.definition.specs.Item.{Step}
use Rattle.definition.specs.Comment.{comment}
use Rattle.definition.specs.Token.{act, token_turn}
use Rattle.definition.specs.declared.State.{State}
use Rattle.lemmas.proofs.Loops.{Leads, leads_map, Any}
use Rattle.lemmas.proofs.Cases.{by_equal, by_le}
use Rattle.state.specs.Sound.{Stands}
use Rattle.laws_run.proofs.Moving.{stands_within}
use Rattle.laws_run.proofs.Paths.{path_reads}
use Rattle.laws_run.proofs.FormLaws.{piece_goes_on}
use Rattle.laws_run.proofs.ItemSpans.{Span, piece_span, form_over, turn_span}
use Rattle.laws_run.proofs.Steps.{act_says, zero_outside}
use Rattle.laws_coverage.specs.Coverage.{EofOrFailed}
use Rattle.laws_coverage.proofs.Turns.{Turned, Carried, turned_keeps, carried_piece, stands}

-- an item given at st begins there, if the reading goes on after it, and is empty if not; it ends where the state after it stands
pub record Placed (st : State) (t : Step) : Type 0 where
  pub to : t.item.to ≡ t.next.offset
  pub begins : st.offset ≤ t.item.from
  pub ordered : t.item.from ≤ t.item.to
  pub goes_on : (t.next.mode ≡ 2 → ⊥) → t.item.from ≡ st.offset
  pub is_empty : t.next.mode ≡ 2 → t.item.from ≡ t.item.to

placed : (st : State) (t : Step) → Span st t → (t.next.mode ≡ 2 → t.item.from ≡ t.item.to) → Placed st t
placed st t p is_empty = record { to = p.to; begins = order.0; ordered = order.1; goes_on = goes_on; is_empty = is_empty }
  where
    goes_on : (t.next.mode ≡ 2 → ⊥) → t.item.from ≡ st.offset
    goes_on n = p.from (λ e. n (p.ends e))

    order : (st.offset ≤ t.item.from) × (t.item.from ≤ t.item.to)
    order =
        by_equal t.next.mode 2
        (λ m. let q = is_empty m in (omega (arith, p.to, p.forward), omega arith))
        (λ n. let q = goes_on n in (omega arith, omega (arith, p.to, p.forward)))

-- what holds of the last item that is given at st
abbrev pub IfLast : Bytes → State → Step → Type 0
IfLast s st t = t.next.mode ≡ 2 → (t.item.from ≡ t.item.to) × EofOrFailed s st t

-- what a turn outside a comment gives
turn_last : (s name f : Bytes) (st : State) → Stands s st → st.mode ≡ 0 → Leads Any (IfLast s st) (token_turn s name f st)
unfolding token_turn
turn_last s name f st h m =
    by_le (Leads Any (IfLast s st)) (length s) st.offset
    (λ l _. (refl, inl (refl, omega (arith, stands_within h))))
    (λ l. leads_map (λ b g. tt) (λ t v q. let e = form_over m v q in (e.0, inr (e.1, l)))
    (act s name f st (select s f st.offset)) (act_says s name f st (omega arith)))

module _ (s name f : Bytes) (g : State) where
  -- After what is skipped reading goes on, not further back, and outside a comment.
  module _ {st next : State} (k : Turned s name f g st (again next)) where
    pub skip_forward : st.offset ≤ next.offset
    skip_forward = (path_reads (turned_keeps s name f g k).path).ahead.forward

    pub skip_outside : next.mode ≡ 0
    skip_outside = (path_reads (turned_keeps s name f g k).path).mode ∙ k.outside

    pub skip_going : next.mode ≡ 2 → ⊥
    skip_going = (zero_outside {st = next} skip_outside).going

  module _ (sound : Stands s g) where
    -- An item of a choice.
    module _ {st : State} {t : Step} (k : Turned s name f g st (done t)) where
      pub item_last : IfLast s st t
      item_last = subst (Leads Any (IfLast s st)) k.says (turn_last s name f st (stands s name f g sound k.reached) k.outside)

      pub item_placed : Placed st t
      item_placed = placed st t (subst (Leads Any (Span st)) k.says (turn_span s name f st)) (λ m. (item_last m).0)

    -- A later piece of a comment, after which reading goes on.
    module _ {st : State} (k : Carried s name f g st) where
      pub piece_next : (comment s st.offset st).next.mode ≡ 2 → ⊥
      piece_next = piece_goes_on ((stands s name f g sound k.reached).sound.opened k.inside) (carried_piece s name f g k)

      pub piece_placed : Placed st (comment s st.offset st)
      piece_placed = placed st _ (piece_span (carried_piece s name f g k) (omega arith)) (λ m. absurd (piece_next m))
