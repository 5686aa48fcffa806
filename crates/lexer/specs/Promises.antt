-- What `run` promises: the three demands, a definition each, and document 02's K4, which joins demand 2. Its contract (src/lib.rt) cites
-- them; docs/CONTRACTS.md has their sentences.
-- s is the text, name the file's name, f the class file, st the saved state, rs and ps the buffers lent for records and for payload, all as
-- the run is given them. o is the run's outcome: its answer r, and both buffers as it leaves them.
use Rattle.std.specs.Prelude.{◌≡◌, List, ◌⊎◌, ℕ}
use Rattle.definition.specs.Answers.{RunAnswer}
use Rattle.definition.specs.Basics.{Bytes}
use Rattle.definition.specs.Run.{Outcome, run}
use Rattle.definition.specs.Reading.{EveryReading}
use Rattle.definition.specs.declared.State.{State}
use Rattle.laws_run.specs.Written.{Done}
use Rattle.laws_coverage.specs.Coverage.{NothingLost}

-- ---- demand 1: a run "answers one refusal number with every buffer unaltered" "or a count of whole items with the state after them"

-- the first: a number that isn't 0; and then "no items and stop 0", the state given, and both buffers as they were lent
pub record Refused (st : State) (rs : List ℕ) (ps : Bytes) (o : Outcome) : Type 0 where
  pub number : o.0.refusal ≡ 0 → ⊥
  pub count : o.0.count ≡ 0
  pub stop : o.0.stop ≡ 0
  pub state : o.0.state ≡ st
  pub records : o.1 ≡ rs
  pub payload : o.2 ≡ ps

-- the second: number 0; the items are steps of the definition one after another, as many as the count says; the buffers hold their records
-- and payloads from the front on, each whole, and after them what they held; the state handed back is the one after the last of them; and
-- the stop says why there are no more. These are the fields of `Done` (crates/laws_run/specs/Written.antt).
-- "Every run ends", since a function that is proved ends. "No public operation has a `requires`": see src/lib.rt.
abbrev pub RefusedOrCounted : Bytes → Bytes → Bytes → State → List ℕ → Bytes → Outcome → Type 0
RefusedOrCounted s name f st rs ps o = Refused st rs ps o ⊎ Done s name f st rs ps o

-- ---- demand 2: "Tokens, payloads, positions, comments and errors equal what the source's text defines"

-- what it defines is `run` (crates/definition/specs/Run.antt), of the answer, the records, the payload and the untouched rest of both
-- buffers, refusals too
abbrev pub AsDefined : Bytes → Bytes → Bytes → State → List ℕ → Bytes → Outcome → Type 0
AsDefined s name f st rs ps o = o ≡ run s name f st rs ps

-- document 02's K4 adds to it, of a run that isn't refused: "no byte can vanish". From st on, if the reading hasn't ended there, up to the
-- text's end or to the first byte of the choice that failed, each byte is counted once: in the span of an item that runs from st write, or
-- in what is skipped before one. It is said by `NothingLost` (crates/laws_coverage/specs/Coverage.antt)
abbrev pub NoByteVanishes : Bytes → Bytes → Bytes → State → RunAnswer State → Type 0
NoByteVanishes s name f st r = r.refusal ≡ 0 → NothingLost s name f st

-- ---- demand 3: "At every reading position" of a run that isn't refused "the choice is the longest part that any rule's pattern permits,
-- every way of splitting counted; ties go to the earlier rule", "unexpected char" comes "exactly when no rule permits a byte", and "each
-- choice that is no error moves on"

-- what a reading position is, and what holds there, says `EveryReading` (crates/definition/specs/Reading.antt)
abbrev pub LongestEverywhere : Bytes → Bytes → Bytes → State → RunAnswer State → Type 0
LongestEverywhere s name f st r = r.refusal ≡ 0 → EveryReading s name f st
