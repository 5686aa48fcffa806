-- What a number has in a list of keys, as a `match` of the code finds it: the keys are listed from the last arm to the first.
use Rattle.std.specs.Prelude.{ℕ, ◌≡◌, true, false, List, [], ◌∷◌, eqb}

abbrev pub at_key : {X : Type 0} → ℕ → List (ℕ × X) → X → X
at_key n [] d = d
at_key n (x ∷ l) d = elim (eqb n x.0) [ true ↦ x.1 | false ↦ at_key n l d ]

-- the number is none of the keys, as a `match` says it in its last arm
abbrev pub Missing : {X : Type 0} → List (ℕ × X) → ℕ → Type 0
Missing [] n = Unit {0}
Missing (x ∷ l) n = Missing l n × (n ≡ x.0 → ⊥)
