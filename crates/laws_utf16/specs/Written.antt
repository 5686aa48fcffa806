-- What a second run that isn't refused has done, as crate `laws_run` says it of the first (its specs/Written.antt and specs/Split.antt).
-- s is the text, name the file's name, f the class file, g the state given; rs and ps are the buffers as they were lent.
use Rattle.std.specs.Prelude.{ℕ, ◌*◌, ◌≤◌, ◌<◌, ◌≡◌, List, [], ◌++◌, map, length}
use Rattle.definition.specs.Basics.{Bytes}
use Rattle.definition.specs.Item.{Step, record_size}
use Rattle.definition.specs.Items.{Told, told, records_of, payloads_of, steps_of}
use Rattle.definition.specs.Utf16.{utf16, second_steps, second_after, Utf16Outcome, utf16_run}
use Rattle.definition.specs.declared.Utf16State.{Utf16State}
use Rattle.lemmas.specs.Over.{over}
use Rattle.laws_run.specs.Written.{Stops}
use Rattle.laws_run.specs.Split.{items_in}

-- the items written are steps of the definition one after another, none from a state that has ended, as many as the count says; the buffers
-- hold their records and payloads from the front on, each whole, and after them what they held; the state handed back is the one after the
-- last of them; the stop says why there are no more; and the payload bytes are few, whatever buffer was lent
pub record Utf16Done (s name f : Bytes) (g : Utf16State) (rs : List ℕ) (ps : Bytes) (o : Utf16Outcome) : Type 0 where
  pub ts : List Step
  pub items : ts ≡ second_steps utf16 s name f (length ts) g
  pub going : (k : ℕ) → k < length ts → (second_after utf16 s name f k g).first.mode ≡ 2 → ⊥
  pub count : o.0.count ≡ length ts
  pub state : o.0.state ≡ second_after utf16 s name f (length ts) g
  pub records : o.1 ≡ over (records_of 0 ts) rs
  pub payload : o.2 ≡ over (payloads_of ts) ps
  pub records_fit : record_size * length ts ≤ length rs
  pub payload_fits : length (payloads_of ts) ≤ length ps
  pub stops : Stops s name f rs ps (length ts) (length (payloads_of ts)) o.0.state.first o.0.stop
  pub taken : (o.0.refusal ≡ 0) × (o.0.offset ≡ 0)
  pub small : length (payloads_of ts) ≤ 421527552

-- ---- runs one after another

-- the items from a state on, as document 01 compares them; there are as many as in the first run
abbrev pub utf16_items_of : Bytes → Bytes → Bytes → Utf16State → List Told
utf16_items_of s name f g = map told (second_steps utf16 s name f (length (steps_of s name f g.first)) g)

-- the items that a run wrote
abbrev pub utf16_written_by : Utf16Outcome → List Told
utf16_written_by o = items_in o.0.count o.1 o.2

-- from g, each from the state that the run before handed back: l is what they wrote, one after another, and b is the last state handed back
pub data Utf16Split (s name f : Bytes) : Utf16State → List Told → Utf16State → Type 0 where
  no_run : {g : Utf16State} → Utf16Split s name f g [] g
  then_run : {g b : Utf16State} {l : List Told} (rs : List ℕ) (ps : Bytes) → Utf16Split s name f (utf16_run s name f g rs ps).0.state l b
      → Utf16Split s name f g (utf16_written_by (utf16_run s name f g rs ps) ++ l) b
