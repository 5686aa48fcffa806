-- What a run that isn't refused has done: which items it wrote, what its two buffers hold then, and why it stopped.
-- s is the text, name the file's name, f the class file, st the state given; rs and ps are the buffers as they were lent.
use Rattle.std.specs.Prelude.{ℕ, ◌-◌, ◌*◌, ◌≤◌, ◌<◌, ◌≡◌, List, ◌↔◌, length}
use Rattle.definition.specs.Basics.{Bytes}
use Rattle.definition.specs.Item.{Step, record_size}
use Rattle.definition.specs.Token.{step}
use Rattle.definition.specs.Run.{Outcome}
use Rattle.definition.specs.declared.State.{State}
use Rattle.lemmas.specs.Over.{over}
use Rattle.definition.specs.Items.{Steps, records_of, payloads_of}

-- ---- what is written for some items

-- "Numbers and bytes past the last written item and its payload keep what they held": ts were written from the fronts of rs and ps on, which
-- then are rs' and ps', and b is the state after them
pub record Filled (s name f : Bytes) (st : State) (rs : List ℕ) (ps : Bytes) (ts : List Step) (b : State) (rs' : List ℕ) (ps' : Bytes) : Type 0 where
  pub steps : Steps s name f st ts b
  pub records : rs' ≡ over (records_of 0 ts) rs
  pub payload : ps' ≡ over (payloads_of ts) ps
  pub records_fit : record_size * length ts ≤ length rs
  pub payload_fits : length (payloads_of ts) ≤ length ps

-- ---- why a run stops

-- at b, with n items and `used` payload bytes written: "the end (stop 0)", by document 02 "fewer than 18 numbers left" (stop 1), "or a
-- payload longer than the bytes left (stop 2); 1 goes before 2"
pub record Stops (s name f : Bytes) (rs : List ℕ) (ps : Bytes) (n used : ℕ) (b : State) (stop : ℕ) : Type 0 where
  pub at_end : stop ≡ 0 ↔ b.mode ≡ 2
  pub records_full : stop ≡ 1 ↔ ((b.mode ≡ 2 → ⊥) × (length rs - record_size * n < record_size))
  pub payload_full : stop ≡ 2
      ↔ ((b.mode ≡ 2 → ⊥) × (record_size ≤ length rs - record_size * n) × (length ps - used < length (step s name f b).payload))
  pub one_of : stop ≤ 2

-- ---- what a run has done

pub record Done (s name f : Bytes) (st : State) (rs : List ℕ) (ps : Bytes) (o : Outcome) : Type 0 where
  -- the items written
  pub ts : List Step
  pub filled : Filled s name f st rs ps ts o.0.state o.1 o.2
  pub count : o.0.count ≡ length ts
  pub stops : Stops s name f rs ps (length ts) (length (payloads_of ts)) o.0.state o.0.stop
  pub taken : (o.0.refusal ≡ 0) × (o.0.offset ≡ 0)
  -- the payload bytes written, and so every word 6, are far below 2^32, whatever buffer was lent
  pub small : length (payloads_of ts) ≤ 421527552
