-- Runs one after another, each with buffers of its own, and the items that a reader finds in the buffers.
use Rattle.std.specs.Prelude.{ℕ, zero, suc, ◌+◌, List, [], ◌∷◌, ◌++◌, eqb, take, drop, get_or, if◌then◌else◌}
use Rattle.definition.specs.Basics.{Bytes}
use Rattle.definition.specs.Item.{record_size}
use Rattle.definition.specs.Run.{Outcome, run}
use Rattle.definition.specs.declared.State.{State}
use Rattle.definition.specs.Items.{Told, without_6}

-- ---- the items in the buffers

-- how many payload bytes an item has, by its record: word 7; and "a blob's payload is its name (word 7) and then its contents", whose length is
-- word 10. Word 9 says whether it is a blob
unfoldable pub payload_size : List ℕ → ℕ
payload_size r = get_or r 7 0 + (if eqb (get_or r 9 0) 2 then get_or r 10 0 else 0)

-- the item of a record: its payload begins at the byte that word 6 gives
unfoldable pub item_in : Bytes → List ℕ → Told
item_in ps r = (without_6 r, take (payload_size r) (drop (get_or r 6 0) ps))

-- the items of the first n records
unfoldable pub items_in : ℕ → List ℕ → Bytes → List Told
items_in zero rs ps = []
items_in (suc n) rs ps = item_in ps (take record_size rs) ∷ items_in n (drop record_size rs) ps

-- the items that a run wrote
abbrev pub written_by : Outcome → List Told
written_by o = items_in o.0.count o.1 o.2

-- ---- runs one after another

-- from st, each from the state that the run before handed back, with the same text, name and class file, each with its own two
-- buffers: l is what they wrote, one after another, and b is the last state handed back
pub data Split (s name f : Bytes) : State → List Told → State → Type 0 where
  no_run : {st : State} → Split s name f st [] st
  then_run : {st b : State} {l : List Told} (rs : List ℕ) (ps : Bytes) → Split s name f (run s name f st rs ps).0.state l b
      → Split s name f st (written_by (run s name f st rs ps) ++ l) b
