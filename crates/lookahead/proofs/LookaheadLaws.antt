-- A reader that looks for the next choice: after what is passed it reads what it read before. Rests on the laws of choices, of
-- progress and of sound states.
use Prim.Native.Nat.{◌-◌, ◌≤◌, ◌<◌}
use native.Mathlib.Omega.{arith}
use mathlib.Core.Path.{◌≡◌, refl, sym, ap, ◌∙◌}
use mathlib.Core.Bool.{true}
use mathlib.Core.List.{[]}
use lib.ListN.{length}
use Rattle.definition.specs.Basics.{Bytes}
use Rattle.definition.specs.ClassFile.{class_check}
use Rattle.definition.specs.Select.{select}
use Rattle.definition.specs.Token.{TokenTurn, next_token}
use Rattle.definition.specs.Utf16.{chosen_at}
use Rattle.definition.specs.declared.Choice.{Choice}
use Rattle.lemmas.proofs.Loops.{says}
use Rattle.laws_run.proofs.Steps.{token_unroll}
use Rattle.laws_run.proofs.Choosing.{chosen_here}
use Rattle.reader.specs.Described.{Turns}
use Rattle.reader.specs.Cursors.{moved, next_line}
use Rattle.reader.specs.declared.Cursor.{Cursor}
use Rattle.reader.specs.declared.ReadResult.TheVariants.{Again}
use Rattle.reader.specs.Actions.{Chose, Rules, action_step}
use Rattle.reader.specs.declared.actions.Action.{Action}
use Rattle.rule_table.specs.Rules.{rule_of, action_does, does}
use Rattle.rule_table.specs.declared.table.Rule.{Rule}
use Rattle.rule_table.specs.declared.table.Rule.TheVariants as rules
use Rattle.rule_table.specs.declared.table.Rule.TheVariants.{White, Newline}
use Rattle.rule_table.specs.declared.table.ActionRule.{ActionRule}
use Rattle.rules.specs.Acting.{Acts}
use Rattle.rules.proofs.RuleLaws.{needs_place, some_chosen, turns_by_rule, ruled_acts, moved_turns, line_turns}
use Rattle.lookahead.specs.White.{Between, AfterWhite}
use Rattle.lookahead.proofs.TurnLaws.{Goes, turn_is, turn_acts, turn_goes}
use Rattle.lookahead.specs.Lookahead.{Faces, SeesRule}
use Rattle.lookahead.proofs.ItemLaws.{GivesItem, turn_gives}

-- what is asked where a choice is acted on
pub chosen_acts : {s name f : Bytes} {at : Cursor} {c : Choice} → Between s f at → c ≡ select s f at.st.offset → at.st.offset < length s → length name ≤ 4096
    → Acts s name f at c
chosen_acts h q before named = record {
  standing = h.standing;
  between = h.between;
  before = before;
  chosen = q;
  accepted = h.accepted;
  named = named;
}

-- ---- the loop

-- a reader stands between comments, and what it reads is what the first reads, given at the same place
pub record Reaching (s f : Bytes) (first here : Cursor) : Type 0 where
  pub ready : Between s f here
  pub same : (name : Bytes) → length name ≤ 4096 → next_token s name f here.st ≡ next_token s name f first.st
  pub given : (name : Bytes) → length name ≤ 4096 → chosen_at s name f here.st ≡ chosen_at s name f first.st

pub reaching_starts : {s f : Bytes} {at : Cursor} → Between s f at → Reaching s f at at
reaching_starts h = record { ready = h; same = λ name named. refl; given = λ name named. refl }

pub reaching_after : {s f : Bytes} {first from here : Cursor} → Reaching s f first from → AfterWhite s f from here → Reaching s f first here
reaching_after k b = record {
  ready = b.ready;
  same = λ name named. b.same name ∙ k.same name named;
  given = λ name named. b.given name ∙ k.given name named;
}

module _ {s f : Bytes} {first here : Cursor} {c : Choice} (k : Reaching s f first here) (q : c ≡ select s f here.st.offset)
    {r : Rule} (is : rule_of c.place ≡ r) where
  -- a choice of a place
  pub chosen : needs_place r ≡ true → Chose s here c.end
  chosen z = some_chosen f k.ready.standing k.ready.between q is z

  -- after what a rule passes the reader goes on, with less of the text before it
  passed : {p : Cursor} → needs_place r ≡ true
      → ((name : Bytes) → Turns s name f (does s name f r here.st c.place c.end c.word) (Again p))
      → Reaching s f first p × (length s - p.st.offset < length s - here.st.offset)
  passed {p} z turns =
      let o = (chosen z).onward in
      let before : here.st.offset < length s = omega (arith, o.past, o.within) in
      let goes : (name : Bytes) → length name ≤ 4096 → Goes s name f here.st p = λ name named.
      turn_goes s name f here.st p k.ready.standing.stands k.ready.between
      (turn_acts s name f here.st c (Again p) before q (turns_by_rule (chosen_acts k.ready q before named) is (Again p) (turns name))) in
      let g = goes [] (omega arith) in (
        record {
          ready = record { standing = g.standing; between = g.between; accepted = k.ready.accepted };
          same = λ name named. (goes name named).same ∙ k.same name named;
          given = λ name named. (goes name named).given ∙ k.given name named;
        },
        g.less,
      )

  -- what is neither white space nor a line end is what the reader sees
  pub seen : GivesItem r → SeesRule s f first here c r
  seen z = record {
    faces = record { standing = k.ready.standing; between = k.ready.between; chosen = q; ruled = is };
    same = k.same;
    given = λ name named. sym (chosen_here s name f here.st _ (turn_gives s name f here.st c q is z).is) ∙ k.given name named;
  }

module _ {s f : Bytes} {first here : Cursor} {c : Choice} (k : Reaching s f first here) (q : c ≡ select s f here.st.offset) where
  -- white space is passed, and so is a line end
  pub passed_white : {p : Cursor} → rule_of c.place ≡ White → p ≡ moved here c.end
      → Reaching s f first p × (length s - p.st.offset < length s - here.st.offset)
  passed_white is d = passed k q is refl (λ name. moved_turns (chosen k q is refl) d)

  pub passed_line : {p : Cursor} → rule_of c.place ≡ Newline → p ≡ next_line here c.end
      → Reaching s f first p × (length s - p.st.offset < length s - here.st.offset)
  passed_line is d = passed k q is refl (λ name. line_turns (chosen k q is refl) d)

-- ---- actions

module _ {s f : Bytes} {here : Cursor} {c : Choice} {rule : ActionRule} (h : Faces s f here c (rules.Action rule)) (accepted : class_check f ≡ 0) where
  ready : Between s f here
  ready = record { standing = h.standing; between = h.between; accepted = accepted }

  -- a choice whose rule gives an action ends after the reader
  pub action_chose : Chose s here c.end
  action_chose = some_chosen f h.standing h.between h.chosen h.ruled refl

  -- the step that the action stands for is the next item
  pub action_next : {x : Action} (name : Bytes) → length name ≤ 4096 → Rules s name here c.end (action_does s name rule here.st c.place c.end c.word) x
      → next_token s name f here.st ≡ action_step s name f here.st c.end x
  action_next name named gives =
      let o = action_chose.onward in
      let before : here.st.offset < length s = omega (arith, o.past, o.within) in
      token_unroll s name f here.st
      ∙ ap (λ (t : TokenTurn). says t (next_token s name f)) (turn_is s name f here.st c before h.chosen ∙ ruled_acts (chosen_acts ready h.chosen before named) h.ruled gives)
