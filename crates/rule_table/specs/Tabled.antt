-- How many words the tables of places have, and that a choice is one of theirs.
use Rattle.std.specs.Prelude.{ℕ, ◌<◌, true, false, eqb}
use Rattle.definition.specs.declared.Choice.{Choice}

-- how many words the table of place k has; 1 where it has none
unfoldable pub table_size : ℕ → ℕ
table_size k =
    elim (eqb k 1) [
      | true ↦ 15
      | false ↦ elim (eqb k 12) [
        | true ↦ 9
        | false ↦ elim (eqb k 36) [ true ↦ 53 | false ↦ elim (eqb k 50) [ true ↦ 8 | false ↦ 1 ] ]
      ]
    ]

-- the choice is one of the places, and its word one of the place's table
pub record Tabled (c : Choice) : Type 0 where
  pub place : c.place < 51
  pub word : c.word < table_size c.place
