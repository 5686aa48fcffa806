-- The items of `next_token` and at the text's end. Rests on the laws of progress and of sound states.
use Prim.Native.Nat.{◌≤◌, ◌<◌}
use native.Mathlib.Omega.{arith}
use mathlib.Core.Path.{◌≡◌, refl, sym, subst}
use mathlib.Core.List.{[]}
use lib.ListN.{length}
use borrow.Author.Tests.{le-leb}
use Rattle.definition.specs.Basics.{Bytes}
use Rattle.definition.specs.Kinds.{kind}
use Rattle.definition.specs.State.{ended}
use Rattle.definition.specs.Item.{Step, tok}
use Rattle.definition.specs.Token.{act, token_turn, next_token}
use Rattle.definition.specs.declared.Choice.{Choice}
use Rattle.definition.specs.declared.State.{State}
use Rattle.definition.specs.declared.Extra.TheVariants.{NoExtra}
use Rattle.position.specs.Columns.{located}
use Rattle.position.specs.declared.Located.{Located}
use Rattle.laws_run.proofs.Steps.{token_unroll}
use Rattle.reader.specs.Described.{Describes, KnownAt, Reads, Turns}
use Rattle.reader.specs.Standing.{Standing}
use Rattle.reader.specs.declared.Cursor.{Cursor}
use Rattle.reader.specs.declared.Payload.TheVariants.{Part}
use Rattle.reader.specs.declared.Read.{Read}
use Rattle.reader.specs.declared.ReadResult.TheVariants.{Done}
use Rattle.reader.proofs.Standing.{known_asked, known_kept}
use Rattle.reader.proofs.Turning.{turned_done}
use Rattle.rule_table.specs.declared.table.Rule.{Rule}
use Rattle.rules.specs.Acting.{Acts}
use Rattle.lookahead.proofs.TurnLaws.{turn_acts}
use Rattle.lookahead.specs.Lookahead.{Faces}
use Rattle.lookahead.proofs.LookaheadLaws.{chosen_acts}
use Rattle.step.specs.Items.{eof, ReadsEach, Lets}

-- ---- the text's end

pub eof_reads : {s name : Bytes} {at : Cursor} {here : Located} {next : State} {r : Read}
    → Standing s at.st at.known → here ≡ located s at.st at.st.offset → next ≡ ended at.st
    → ((f bytes : Bytes) → Describes s name f (Part 0 0) bytes → KnownAt s next here.known → Reads s name f (tok (kind "EOF") bytes at.st.offset here.pos here.pos NoExtra next) r)
    → ReadsEach s name (eof s at.st) r
eof_reads {s} {name} {at} {here} {next} {r} h p q build f =
    let known : KnownAt s (ended at.st) (located s at.st at.st.offset).known =
    known_kept at.st (ended at.st) refl refl (known_asked h at.st.offset h.stands.sound.order) in
    let built = rw (p, q) at build in
    built f [] (record { is = refl; long = refl; inside = omega arith }) known

-- ---- a turn

-- the text's end
pub turn_ends : (s name f : Bytes) (st : State) (r : Read) → length s ≤ st.offset → Reads s name f (eof s st) r → Turns s name f (token_turn s name f st) (Done r)
unfolding token_turn
turn_ends s name f st r h d = rw (token_turn, le-leb _ _ h) d

-- ---- an item

-- what a turn has read is the item
pub next_reads : (s name f : Bytes) (st : State) (r : Read) → Turns s name f (token_turn s name f st) (Done r) → Reads s name f (next_token s name f st) r
next_reads s name f st r t =
    subst (λ (x : Step). Reads s name f x r) (sym (token_unroll s name f st)) (turned_done s name f (token_turn s name f st) (next_token s name f) r t)

module _ {s name f : Bytes} {at : Cursor} {c : Choice} {rule : Rule} (h : Faces s f at c rule) (lets : Lets name f) (before : at.st.offset < length s) where
  -- what is asked where the choice is acted on
  pub acts : Acts s name f at c
  acts = chosen_acts (record { standing = h.standing; between = h.between; accepted = lets.accepted }) h.chosen before lets.named

  -- what is then read is the item
  pub acted : (r : Read) → Turns s name f (act s name f at.st c) (Done r) → Reads s name f (next_token s name f at.st) r
  acted r t = next_reads s name f at.st r (turn_acts s name f at.st c (Done r) before h.chosen t)
