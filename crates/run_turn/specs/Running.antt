-- Where a run stands between two items, and what one turn of it does to the buffers. s is the text, name the file's name, f the
-- class file; rs and ps are the buffers as they are then.
use Rattle.std.specs.Prelude.{ℕ, ◌+◌, ◌-◌, ◌*◌, ◌≤◌, ◌<◌, ◌≡◌, List, length}
use Rattle.definition.specs.Basics.{Bytes, Turn, again, done}
use Rattle.definition.specs.Answers.{RunAnswer, stop_number}
use Rattle.definition.specs.ClassFile.{class_check}
use Rattle.definition.specs.Item.{record_size}
use Rattle.definition.specs.Token.{step}
use Rattle.definition.specs.Run.{Outcome, Writing, run_items}
use Rattle.definition.specs.Utf16.{given_at}
use Rattle.definition.specs.declared.State.{State}
use Rattle.laws_run.specs.Left.{left}
use Rattle.laws_run.specs.Going.{run_from}
use Rattle.state.specs.Sound.{Stands}
use Rattle.laws_run.specs.Budget.{budget}
use Rattle.reader.specs.declared.Cursor.{Cursor}
use Rattle.reader.specs.declared.Read.{Read}
use Rattle.reader.specs.Described.{bytes_of, length_of, Inside, KnownAt}
use Rattle.lookahead.specs.Lookahead.{Readable, ahead_step}
use Rattle.lookahead.specs.declared.NextItem.{NextItem}
use Rattle.run_turn.specs.declared.TurnResult.{TurnResult}
use Rattle.run_turn.specs.declared.TurnResult.TheVariants.{Stop, Wrote}

-- the run, as the definition has it
abbrev pub writing : Cursor → ℕ → ℕ → List ℕ → Bytes → Writing
writing at count used rs ps = record { state = at.st; records = rs; payload = ps; count = count; used = used }

-- the answer of a run that stops
abbrev pub answered : ℕ → ℕ → State → RunAnswer State
answered stop count st = record { refusal = 0; offset = 0; stop = stop; count = count; state = st }

-- what a turn of the definition says is what the code did: it stopped, or it wrote an item and stands after it
abbrev pub Ran : Bytes → Turn Writing Outcome → ℕ → State → TurnResult Cursor → List ℕ → Bytes → Type 0
Ran s t count st (Stop n) rs ps = t ≡ done (answered (stop_number n) count st, rs, ps)
Ran s t count st (Wrote next used) rs ps = (t ≡ again (writing next (count + 1) used rs ps)) × KnownAt s next.st next.known

-- what holds of a run between two items: the state is sound, the buffers hold what is written, and what may still come fits
-- numbers of 32 bits, whatever buffers are lent
pub record WithinBounds (s : Bytes) (a : Writing) : Type 0 where
  pub stands : Stands s a.state
  pub begun : record_size * a.count ≤ length a.records
  pub filled : a.used ≤ length a.payload
  pub spent : a.used + budget s a.state ≤ 421527552
  pub few : a.count + left s a.state ≤ 4294967295

-- where the code stands between two items of a run that was not refused
pub record Between (s name f : Bytes) (at : Cursor) (count used : ℕ) (rs : List ℕ) (ps : Bytes) : Type 0 where
  pub accepted : class_check f ≡ 0
  pub named : length name ≤ 4096
  pub kept : WithinBounds s (writing at count used rs ps)
  pub cached : KnownAt s at.st at.known

-- what stands ahead of the reader at `at` is `ahead`, after white space at `here`, where it is given, unless the reading has ended
pub record StandsAhead (s name f : Bytes) (at here : Cursor) (ahead : NextItem) : Type 0 where
  pub readable : (at.st.mode ≡ 2 → ⊥) → Readable s name f here ahead
  pub is : (at.st.mode ≡ 2 → ⊥) → ahead_step s name f here.st ahead ≡ step s name f at.st
  pub given : (at.st.mode ≡ 2 → ⊥) → here.st ≡ given_at s name f at.st

-- what is still to come gives what the whole run gives that began in the state st with the buffers rs₀ and ps₀
pub record Going (s name f : Bytes) (st : State) (rs₀ : List ℕ) (ps₀ : Bytes) (at : Cursor) (count used : ℕ) (rs : List ℕ) (ps : Bytes) : Type 0 where
  pub between : Between s name f at count used rs ps
  pub same : run_from s name f (writing at count used rs ps) ≡ run_items s name f st rs₀ ps₀

-- an item that was read fits: its record from number `first` on, its payload from byte `used` on
pub record ItemFits (s name f : Bytes) (r : Read) (first used : ℕ) (rs : List ℕ) (ps : Bytes) : Type 0 where
  pub accepted : class_check f ≡ 0
  pub long : length_of name r.payload ≡ length (bytes_of s name f r.payload)
  pub inside : Inside s r.payload
  pub begun : first ≤ length rs
  pub record_room : record_size ≤ length rs - first
  pub filled : used ≤ length ps
  pub payload_room : length_of name r.payload ≤ length ps - used
  pub small : used < 4294967296
