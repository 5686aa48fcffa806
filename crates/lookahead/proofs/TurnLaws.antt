-- A turn of `next_token` that goes on, and where a reader stands after white space. Rests on the laws of progress and of sound states.
use Rattle.std.specs.Prelude.{Some}
use Prim.Native.Nat.{◌-◌, ◌<◌}
use native.Mathlib.Omega.{arith}
use mathlib.Core.Path.{◌≡◌, refl, sym, ap, ◌∙◌}
use mathlib.Core.List.{[]}
use lib.ListN.{length}
use borrow.Author.Tests.{lt-leb}
use Rattle.definition.specs.Basics.{Bytes, Turn, again, done}
use Rattle.definition.specs.Item.{Step}
use Rattle.definition.specs.Select.{select}
use Rattle.definition.specs.Token.{act, token_turn, next_token}
use Rattle.definition.specs.Utf16.{chosen_at}
use Rattle.definition.specs.declared.Choice.{Choice}
use Rattle.definition.specs.declared.State.{State}
use Rattle.lemmas.proofs.Loops.{Leads, Any, leads_map, leads_both}
use Rattle.state.specs.Sound.{Stands}
use Rattle.laws_progress.proofs.Walks.{rest}
use Rattle.laws_run.proofs.Steps.{token_turn_stands, token_falls, token_unroll}
use Rattle.laws_run.proofs.Choosing.{chosen_again}
use Rattle.reader.specs.Described.{Turns}
use Rattle.reader.specs.Standing.{Standing}
use Rattle.reader.specs.declared.Cursor.{Cursor}
use Rattle.reader.specs.declared.ReadResult.{ReadResult}
use Rattle.reader.specs.declared.ReadResult.TheVariants.{Again}
use Rattle.reader.proofs.Turning.{turned_again}
use Rattle.lookahead.specs.White.{Between, Passes, AfterWhite}

-- before the text's end a turn acts on the choice
pub turn_is : (s name f : Bytes) (st : State) (c : Choice) → st.offset < length s → c ≡ select s f st.offset → token_turn s name f st ≡ act s name f st c
unfolding token_turn
turn_is s name f st c h q = rw (token_turn, lt-leb _ _ h, ← q)

-- so what is done with the choice is what is done in the turn
pub turn_acts : (s name f : Bytes) (st : State) (c : Choice) (t : ReadResult) → st.offset < length s → c ≡ select s f st.offset → Turns s name f (act s name f st c) t → Turns s name f (token_turn s name f st) t
turn_acts s name f st c t h q d = rw (turn_is s name f st c h q) d

-- a turn stands where it goes on, and has read something
turn_leads : (s name f : Bytes) (st : State) → Stands s st → st.mode ≡ 0
    → Leads (λ b. (Stands s b × (b.mode ≡ 0)) × (rest s b.offset < rest s st.offset)) Any (token_turn s name f st)
turn_leads s name f st h m =
    leads_both (λ b. Stands s b × (b.mode ≡ 0)) (λ b. rest s b.offset < rest s st.offset) (λ t. Stands s t.next) Any
    (token_turn s name f st) (token_turn_stands s name f st h m)
    (leads_map (λ b l. l.1) (λ t _. tt) (token_turn s name f st) ((token_falls s name f).at st tt))

-- a turn that goes on stands where it does, with less of the text before it, and reads the same from there, given at the same place
pub record Goes (s name f : Bytes) (st : State) (p : Cursor) : Type 0 where
  pub standing : Standing s p.st p.known
  pub between : p.st.mode ≡ 0
  pub same : next_token s name f p.st ≡ next_token s name f st
  pub given : chosen_at s name f p.st ≡ chosen_at s name f st
  pub less : length s - p.st.offset < length s - st.offset

goes_again : (s name f : Bytes) (t : Turn State Step) (p : Cursor) → Turns s name f t (Again p) → t ≡ again p.st
goes_again s name f (again b) p h = ap again (sym h.0)
goes_again s name f (done t) p h = absurd h

pub turn_goes : (s name f : Bytes) (st : State) (p : Cursor) → Stands s st → st.mode ≡ 0 → Turns s name f (token_turn s name f st) (Again p) → Goes s name f st p
turn_goes s name f st p h m t =
    let g = turned_again s name f (λ b. (Stands s b × (b.mode ≡ 0)) × (rest s b.offset < rest s st.offset)) Any
    (token_turn s name f st) (next_token s name f) p (turn_leads s name f st h m) t in
    record {
      standing = record { stands = g.holds.0.0; cached = g.known };
      between = g.holds.0.1;
      same = sym g.same ∙ sym (token_unroll s name f st);
      given = sym (chosen_again s name f st p.st (goes_again s name f (token_turn s name f st) p t));
      less = g.holds.1;
    }

-- ---- white space before a choice

pub after_white_starts : {s f : Bytes} {at : Cursor} → Between s f at → AfterWhite s f at at
after_white_starts h = record { ready = h; same = λ name. refl; given = λ name. refl; less = omega arith }

-- what is passed leads on after it
pub after_white_on : {s f : Bytes} {first here next : Cursor} → AfterWhite s f first here → Passes s f here.st (Some next)
    → AfterWhite s f first next × (length s - next.st.offset < length s - here.st.offset)
after_white_on {s} {f} {first} {here} {next} b p =
    let goes : (name : Bytes) → Goes s name f here.st next = λ name. turn_goes s name f here.st next b.ready.standing.stands b.ready.between (p name) in
    let g = goes [] in (
      record {
        ready = record { standing = g.standing; between = g.between; accepted = b.ready.accepted };
        same = λ name. (goes name).same ∙ b.same name;
        given = λ name. (goes name).given ∙ b.given name;
        less = omega (arith, g.less, b.less);
      },
      g.less,
    )
