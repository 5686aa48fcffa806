-- The items of a text from a state on, and what is written of them. s is the text, name the file's name, f the class file.
use Rattle.std.specs.Prelude.{ℕ, zero, suc, ◌+◌, ◌≡◌, true, false, List, [], ◌∷◌, ◌++◌, map, eqb, length, take, drop}
use Rattle.definition.specs.Basics.{Bytes}
use Rattle.definition.specs.Item.{Step, words}
use Rattle.definition.specs.Token.{step}
use Rattle.definition.specs.Run.{most_items}
use Rattle.definition.specs.declared.State.{State}

-- ---- the items from a state on

-- steps until the reading has ended, n at most
unfoldable pub steps : Bytes → Bytes → Bytes → ℕ → State → List Step
steps s name f zero st = []
steps s name f (suc n) st =
    elim (eqb st.mode 2) [
      | true ↦ []
      | false ↦ let t = step s name f st in t ∷ steps s name f n t.next
    ]

-- all of them: there are never so many (crate `laws_run`, proofs/Items.antt)
unfoldable pub steps_of : Bytes → Bytes → Bytes → State → List Step
steps_of s name f st = steps s name f (most_items s st) st

-- ts are steps one after another: the first from st, each other one from the state after the one before it, and b is the state after
-- the last
abbrev pub Steps : Bytes → Bytes → Bytes → State → List Step → State → Type 0
Steps s name f st [] b = st ≡ b
Steps s name f st (t ∷ ts) b = (st.mode ≡ 2 → ⊥) × (t ≡ step s name f st) × Steps s name f t.next ts b

-- ---- what is written of them

-- their records, where the first payload begins at byte `used`
unfoldable pub records_of : ℕ → List Step → List ℕ
records_of used [] = []
records_of used (t ∷ ts) = words t.item used ++ records_of (used + length t.payload) ts

-- their payloads
unfoldable pub payloads_of : List Step → Bytes
payloads_of [] = []
payloads_of (t ∷ ts) = t.payload ++ payloads_of ts

-- ---- as document 01 compares them: "word 6 is left out and the payload bytes are compared"

-- an item's numbers without word 6, and its payload's bytes
abbrev pub Told : Type 0
Told = List ℕ × Bytes

-- a record without word 6
abbrev pub without_6 : List ℕ → List ℕ
without_6 r = take 6 r ++ drop 7 r

-- of a step; the 0 is word 6, which is left out
abbrev pub told : Step → Told
told t = (without_6 (words t.item 0), t.payload)

-- the items from a state on
abbrev pub items_of : Bytes → Bytes → Bytes → State → List Told
items_of s name f st = map told (steps_of s name f st)
