-- Demand 3 of document 01: at every reading position of a run that isn't refused the choice is the longest and earliest, error 6 is given
-- exactly where it is none of the places, and what is skipped, or gives an item that is no ERROR, has a byte or more. Rests on the law of
-- the longest match (crate `laws_longest`), on what every turn says, and on the soundness of every state that a run comes to (Steps).
use Prim.Native.Nat.{◌<◌}
use mathlib.Core.Path.{◌≡◌, refl, subst}
use native.Mathlib.Omega.{arith}
use lib.ListN.{length}
use Rattle.definition.specs.Basics.{Bytes, Turn, again, done}
use Rattle.definition.specs.Kinds.{kind}
use Rattle.definition.specs.Rules.{place_rules, chosen_rule}
use Rattle.definition.specs.Select.{select}
use Rattle.definition.specs.Item.{Step}
use Rattle.definition.specs.Token.{act, token_turn}
use Rattle.definition.specs.Run.{refusal}
use Rattle.definition.specs.Reading.{GivesError, RightChoice, EveryReading}
use Rattle.definition.specs.declared.Choice.{Choice}
use Rattle.definition.specs.declared.State.{State}
use Rattle.lemmas.proofs.Cases.{by_equal, by_le}
use Rattle.state.specs.Sound.{Stands}
use Rattle.laws_longest.proofs.Law.{select_longest}
use Rattle.laws_run.proofs.Paths.{Goes}
use Rattle.laws_run.proofs.FormLaws.{awake_yet, form_gives, form_number}
use Rattle.laws_run.proofs.Forms.{Form, Gives}
use Rattle.laws_run.proofs.ItemSpans.{form_over}
use Rattle.laws_run.proofs.Rules.{Says}
use Rattle.laws_run.proofs.Steps.{turn_says, reached_stands}
use Rattle.laws_run.proofs.Refusals.{run_stands}

module _ (s name f : Bytes) where
  -- an item that is no ERROR, read in mode 0 before the text's end: something is left to read less, since the reading isn't over and no
  -- level was open
  item_moves : (st : State) (t : Step) → Stands s st → st.mode ≡ 0 → Gives s st t → (t.next.mode ≡ 2 → t.item.kind ≡ kind "ERROR")
      → (t.item.kind ≡ kind "ERROR" → ⊥) → st.offset < t.next.offset
  item_moves st t h m g last n =
      let d : st.depth ≡ 0 = h.sound.level (λ q. absurd (omega arith)) in
      by_equal t.next.mode 2 (λ q. absurd (n (last q))) (λ q. omega (arith, g.less, awake_yet t.next.mode q))

  module _ (st : State) (l : st.offset < length s) where
    c : Choice
    c = select s f st.offset

    -- an error of number 6 says that none of the places was chosen
    says_none : (t : Turn State Step) → Says s name (c.place ≡ 0) st t → GivesError 6 t → c.place ≡ 0
    says_none (again b) v e = absurd e
    says_none (done t) v e = form_number v e

    -- and there it is given
    none_says : c.place ≡ 0 → GivesError 6 (token_turn s name f st)
    unfolding c token_turn act chosen_rule place_rules
    none_says q = by_le (GivesError 6) (length s) st.offset (λ n. absurd (omega arith)) (λ _. rw q refl)

  -- what holds at a reading position where a run stands
  right_choice : (st : State) → Stands s st → st.mode ≡ 0 → st.offset < length s → RightChoice s name f st
  unfolding c
  right_choice st h m l = record {
    longest = select_longest s f st.offset (omega arith);
    unexpected = (says_none st l (token_turn s name f st) (turn_says s name f st l), none_says st l);
    skips = λ next e. let v : Goes s (Unit {0}) st next = subst (Says s name ((c st l).place ≡ 0) st) e (turn_says s name f st l) in omega (arith, v.moves tt);
    gives = λ t e.
        let v : Form s name ((c st l).place ≡ 0) st t = subst (Says s name ((c st l).place ≡ 0) st) e (turn_says s name f st l) in
        item_moves st t h m (form_gives (omega arith) v) (λ q. (form_over m v q).1);
  }

  -- Demand 3, over a run.
  pub every_reading : (g : State) → (refusal s name f g).0 ≡ 0 → EveryReading s name f g
  every_reading g e st r m l = right_choice st (reached_stands s name f r (run_stands s name f g e)) m l
