-- What the second run promises (document 02, K2): the demands on the first run, and that both give the same items. Its contract
-- (src/utf16.rt) cites them.
-- s is the text, name the file's name, f the class file, g the saved state, rs and ps the buffers lent for records and for payload, all as
-- the run is given them. o is the run's outcome: its answer r, and both buffers as it leaves them.
use Rattle.std.specs.Prelude.{◌≡◌, List, ◌⊎◌, ℕ}
use Rattle.definition.specs.Answers.{RunAnswer}
use Rattle.definition.specs.Basics.{Bytes}
use Rattle.definition.specs.Run.{run}
use Rattle.definition.specs.Reading.{EveryReading}
use Rattle.definition.specs.Utf16.{Utf16Outcome, utf16_run}
use Rattle.definition.specs.declared.Utf16State.{Utf16State}
use Rattle.laws_utf16.specs.Same.{SameItems}
use Rattle.laws_utf16.specs.Written.{Utf16Done}
use Rattle.laws_coverage.specs.Coverage.{NothingLost}

-- ---- demand 1

-- a refusal number that isn't 0; and then no items and stop 0, the state given, and both buffers as they were lent
pub record Refused (g : Utf16State) (rs : List ℕ) (ps : Bytes) (o : Utf16Outcome) : Type 0 where
  pub number : o.0.refusal ≡ 0 → ⊥
  pub count : o.0.count ≡ 0
  pub stop : o.0.stop ≡ 0
  pub state : o.0.state ≡ g
  pub records : o.1 ≡ rs
  pub payload : o.2 ≡ ps

-- or number 0, and a count of whole items with the state after them: the fields of `Utf16Done` (crates/laws_utf16/specs/Written.antt)
abbrev pub RefusedOrCounted : Bytes → Bytes → Bytes → Utf16State → List ℕ → Bytes → Utf16Outcome → Type 0
RefusedOrCounted s name f g rs ps o = Refused g rs ps o ⊎ Utf16Done s name f g rs ps o

-- ---- demand 2

-- what document 02 defines is `utf16_run` (crates/definition/specs/Utf16.antt), of the answer, the records, the payload and the untouched
-- rest of both buffers, refusals too
abbrev pub AsDefined : Bytes → Bytes → Bytes → Utf16State → List ℕ → Bytes → Utf16Outcome → Type 0
AsDefined s name f g rs ps o = o ≡ utf16_run s name f g rs ps

-- "a second run that gives the same items, payloads unchanged, with those positions": beside what the first run gives from the nine numbers
-- with the same buffers, a run that isn't refused is `SameItems` (crates/laws_utf16/specs/Same.antt)
abbrev pub SameAsFirst : Bytes → Bytes → Bytes → Utf16State → List ℕ → Bytes → Utf16Outcome → Type 0
SameAsFirst s name f g rs ps o = o.0.refusal ≡ 0 → SameItems s name f g (run s name f g.first rs ps) o

-- K4: "no byte can vanish" (crates/laws_coverage/specs/Coverage.antt). It speaks of offsets alone, which are the first run's
abbrev pub NoByteVanishes : Bytes → Bytes → Bytes → Utf16State → RunAnswer Utf16State → Type 0
NoByteVanishes s name f g r = r.refusal ≡ 0 → NothingLost s name f g.first

-- ---- demand 3: at every reading position the choice is the longest and moves on (crates/definition/specs/Reading.antt)

abbrev pub LongestEverywhere : Bytes → Bytes → Bytes → Utf16State → RunAnswer Utf16State → Type 0
LongestEverywhere s name f g r = r.refusal ≡ 0 → EveryReading s name f g.first
