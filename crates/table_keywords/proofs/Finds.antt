-- A place in a table is where the definition's `find` finds the lexeme. Rests on nothing but the definition.
use Rattle.std.specs.Prelude.{Some, None, Option}
use Prim.Native.Nat.{ℕ, suc, ◌-◌, ◌≤◌}
use mathlib.Core.Path.{◌≡◌, refl, ◌∙◌}
use mathlib.Core.List.{List, [], ◌∷◌}
use native.Mathlib.Omega.{arith}
use Rattle.definition.specs.Basics.{Bytes, same}
use Rattle.definition.specs.Tables.{Entry, cps, find, entry}
use Rattle.lemmas.proofs.Cases.{by_outcome}
use Rattle.table_words.specs.Words.{spelled}
use Rattle.table_keywords.specs.Places.{place}

-- the entry at a place of a table whose first word is numbered n
abbrev pub entry_at : ℕ → List Entry → Option ℕ → Option Entry
entry_at n table (Some w) = Some (entry table (w - n))
entry_at n table None = None

-- A place is not before the first word, so that it is one of the table after the first entry where it is not the first.
later_entry : (n : ℕ) (id : Bytes) (e : Entry) (table : List Entry)
    → entry_at (suc n) table (place (suc n) id (spelled table)) ≡ entry_at n (e ∷ table) (place (suc n) id (spelled table))
unfolding place
later_entry n id e table = go table (suc n) (omega arith)
  where
    go : (t : List Entry) (m : ℕ) → suc n ≤ m → entry_at (suc n) table (place m id (spelled t)) ≡ entry_at n (e ∷ table) (place m id (spelled t))
    go [] m h = refl
    go (x ∷ t) m h =
        let z : m - n ≡ suc (m - suc n) = omega arith in
        by_outcome (same (cps x.word) id)
        (λ q. rw (place, q, z))
        (λ q. rw (place, q) (go t (suc m) (omega arith)))

-- `find` gives the entry at the place, and none where there is no place.
pub found : (n : ℕ) (id : Bytes) (table : List Entry) → find id table ≡ entry_at n table (place n id (spelled table))
unfolding find place
found n id [] = refl
found n id (e ∷ table) =
    let z : n - n ≡ 0 = omega arith in
    by_outcome (same (cps e.word) id)
    (λ q. rw (find, place, q, z))
    (λ q. rw (find, place, q) (found (suc n) id table ∙ later_entry n id e table))
