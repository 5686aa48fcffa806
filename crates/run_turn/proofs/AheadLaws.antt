-- What stands ahead of a run between two items: the inside of a comment, a choice whose rule reads for itself, or an action on a choice.
-- Rests on the laws of what is seen ahead (crate `lookahead`) and of where a step gives its item.
use mathlib.Core.Path.{◌≡◌, sym, ◌∙◌}
use Prim.Native.Nat.{◌≤◌}
use native.Mathlib.Omega.{arith}
use lib.ListN.{length}
use Rattle.definition.specs.Basics.{Bytes}
use Rattle.definition.specs.ClassFile.{class_check}
use Rattle.definition.specs.Token.{step}
use Rattle.definition.specs.declared.Choice.{Choice}
use Rattle.laws_run.proofs.Steps.{step_between, step_inside}
use Rattle.laws_run.proofs.Choosing.{given_between, given_inside}
use Rattle.reader.specs.Standing.{Standing}
use Rattle.reader.specs.declared.Cursor.{Cursor}
use Rattle.reader.specs.Actions.{Rules, action_step}
use Rattle.reader.specs.declared.actions.Action.{Action}
use Rattle.rule_table.specs.Rules.{action_does}
use Rattle.rule_table.specs.declared.table.Rule.TheVariants as rules
use Rattle.rule_table.specs.declared.table.ActionRule.{ActionRule}
use Rattle.rule_table.specs.declared.table.ReaderRule.{ReaderRule}
use Rattle.lookahead.specs.Lookahead.{SeesRule}
use Rattle.lookahead.specs.declared.NextItem.TheVariants.{ByReader, ByAction, InComment}
use Rattle.lookahead.proofs.LookaheadLaws.{action_chose, action_next}
use Rattle.run_turn.specs.Running.{StandsAhead}

-- in a comment
pub ahead_inside : {s name f : Bytes} {at : Cursor} → Standing s at.st at.known → (at.st.mode ≡ 0 → ⊥) → StandsAhead s name f at at InComment
ahead_inside {s} {name} {f} {at} h n =
    let inside : (at.st.mode ≡ 2 → ⊥) → at.st.mode ≡ 1 = λ w. omega (arith, n, w, h.stands.sound.mode) in
    record {
      readable = λ w. (h, inside w);
      is = λ w. sym (step_inside s name f at.st (inside w));
      given = λ w. sym (given_inside s name f at.st (inside w));
    }

-- a choice whose rule reads for itself
pub ahead_reader : {s f : Bytes} {at here : Cursor} {c : Choice} {rule : ReaderRule} → at.st.mode ≡ 0 → SeesRule s f at here c (rules.Reader rule)
    → (name : Bytes) → length name ≤ 4096 → StandsAhead s name f at here (ByReader c rule)
ahead_reader {s} {f} {at} m h name named = record {
  readable = λ w. h.faces;
  is = λ w. h.same name named ∙ sym (step_between s name f at.st m);
  given = λ w. h.given name named ∙ sym (given_between s name f at.st m);
}

-- an action on a choice, given for every name that is short enough
abbrev pub Gives : Bytes → Cursor → Choice → ActionRule → Action → Type 0
Gives s here c rule x = (name : Bytes) → length name ≤ 4096 → Rules s name here c.end (action_does s name rule here.st c.place c.end c.word) x

module _ {s f : Bytes} {at here : Cursor} {c : Choice} {rule : ActionRule} (m : at.st.mode ≡ 0) (h : SeesRule s f at here c (rules.Action rule))
    (accepted : class_check f ≡ 0) {x : Action} (gives : Gives s here c rule x) where
  pub action_is_step : (name : Bytes) → length name ≤ 4096 → action_step s name f here.st c.end x ≡ step s name f at.st
  action_is_step name named =
      sym (action_next h.faces accepted name named (gives name named)) ∙ h.same name named ∙ sym (step_between s name f at.st m)

  pub ahead_action : (name : Bytes) → length name ≤ 4096 → StandsAhead s name f at here (ByAction c.end x)
  ahead_action name named = record {
    readable = λ w. (action_chose h.faces accepted, (gives name named).fits);
    is = λ w. action_is_step name named;
    given = λ w. h.given name named ∙ sym (given_between s name f at.st m);
  }
