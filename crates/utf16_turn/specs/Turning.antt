-- Where the second run stands between two items, and what one turn of it does to the buffers. s is the text, name the file's name, f the
-- class file; rs and ps are the buffers as they are then.
use Rattle.std.specs.Prelude.{ℕ, ◌+◌, ◌*◌, ◌≤◌, ◌≡◌, true, false, List, eqb, length, get_or, if◌then◌else◌, Option, None, Some}
use Rattle.definition.specs.Answers.{stop_number}
use Rattle.definition.specs.Basics.{Bytes, again, done}
use Rattle.definition.specs.Item.{record_size, words}
use Rattle.definition.specs.Token.{step}
use Rattle.definition.specs.Run.{put, run_turn}
use Rattle.definition.specs.Utf16.{utf16, column_in, second_step, second_next}
use Rattle.definition.specs.declared.State.{State}
use Rattle.definition.specs.declared.Utf16State.{Utf16State}
use Rattle.reader.specs.declared.Cursor.{Cursor}
use Rattle.reader.specs.Described.{KnownAt}
use Rattle.laws_utf16.specs.Accepted.{Utf16Stands}
use Rattle.utf16_positions.specs.Places.{first_place, line_of, line_in, Tallied, Recounts, Recounted}
use Rattle.run_turn.specs.Running.{writing, answered, Between, StandsAhead}
use Rattle.run_turn.specs.declared.TurnResult.{TurnResult}
use Rattle.run_turn.specs.declared.TurnResult.TheVariants.{Stop, Wrote}
use Rattle.utf16_turn.specs.declared.Ahead.{Ahead}
use Rattle.utf16_turn.specs.declared.Utf16Cursor.{Utf16Cursor}

-- ---- a record's positions counted again

-- where the item of a step from g begins
unfoldable pub begun_in : Utf16State → Option ℕ
begun_in g = elim (eqb g.first.mode 1) [ true ↦ Some g.comment | false ↦ None ]

-- what counting asks for, of an item that is given at `here` and after which the first run stands at `next`
abbrev pub Recountable : Bytes → Utf16Cursor → State → Cursor → List ℕ → Type 0
Recountable s at here next r =
    Recounts s (line_in at.state here) (line_in at.state next.st) at.tally r

-- what it gives: the positions on the lines of the two states, and where the run stands after the item
pub record RecountedItem (s : Bytes) (at : Utf16Cursor) (here : State) (next : Cursor) (r : List ℕ) (on : Utf16Cursor) (r' : List ℕ) : Type 0 where
  pub again : Recounted s (line_in at.state here) (line_in at.state next.st) (begun_in at.state) r on.tally r'
  pub state : on.state ≡ record { first = next.st; column = column_in at.state next.st; comment = if eqb next.st.mode 1 then get_or r' 3 0 else 0 }
  pub known : on.known ≡ next.known

-- ---- the run

-- where a run begins from a saved state
abbrev pub cursor_at : Utf16State → Utf16Cursor
cursor_at g =
    let start = line_of g.first g.column in
    record {
      state = g;
      known = record { off = g.first.bol; col = g.first.column };
      tally = record { start = start; place = first_place start };
    }

-- where the first run stands then
abbrev pub cursor_of : Utf16Cursor → Cursor
cursor_of at = record { st = at.state.first; known = at.known }

-- what stands ahead of a run, whatever the file's name is, and that both buffers are what they were
pub record LooksAhead (s f : Bytes) (at : Cursor) (r : Ahead) (rs : List ℕ) (ps : Bytes) (rs' : List ℕ) (ps' : Bytes) : Type 0 where
  pub ahead : (name : Bytes) → length name ≤ 4096 → StandsAhead s name f at r.here r.item
  pub records : rs' ≡ rs
  pub payload : ps' ≡ ps

-- where the code stands between two items of a second run that was not refused
pub record Utf16Between (s name f : Bytes) (at : Utf16Cursor) (count used : ℕ) (rs : List ℕ) (ps : Bytes) : Type 0 where
  pub between : Between s name f (cursor_of at) count used rs ps
  pub stands : Utf16Stands s at.state
  pub tallied : Tallied s at.tally

-- an item was written: the payload's bytes and the numbers of the state after it are the first run's; the record, and both columns of the
-- state, are those of the second step
pub record Utf16Wrote (s name f : Bytes) (at : Utf16Cursor) (count used : ℕ) (rs : List ℕ) (ps : Bytes) (next : Utf16Cursor) (used' : ℕ) (rs' : List ℕ) (ps' : Bytes) : Type 0 where
  pub first : run_turn s name f (writing (cursor_of at) count used rs ps)
      ≡ again (writing (cursor_of next) (count + 1) used' (put rs (record_size * count) (words (step s name f at.state.first).item used)) ps')
  pub records : rs' ≡ put rs (record_size * count) (words (second_step utf16 s name f at.state).item used)
  pub state : next.state ≡ second_next utf16 s name f at.state
  pub known : KnownAt s next.state.first next.known
  pub tallied : Tallied s next.tally

-- what a turn did: it stopped, as the first run's turn does; or it wrote an item
abbrev pub Utf16Ran : Bytes → Bytes → Bytes → Utf16Cursor → ℕ → ℕ → List ℕ → Bytes → TurnResult Utf16Cursor → List ℕ → Bytes → Type 0
Utf16Ran s name f at count used rs ps (Stop n) rs' ps' =
    run_turn s name f (writing (cursor_of at) count used rs ps) ≡ done (answered (stop_number n) count at.state.first, rs', ps')
Utf16Ran s name f at count used rs ps (Wrote next used') rs' ps' = Utf16Wrote s name f at count used rs ps next used' rs' ps'
