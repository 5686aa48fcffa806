-- How long the keyword-operator words are that may stand where a byte does.
use Rattle.std.specs.Prelude.{ℕ, ◌≤◌, ◌≡◌, not, ◌&&◌, List, [], eqb, length}
use Rattle.definition.specs.Tables.{kw_op_words}
use Rattle.table_words.specs.Rows.{Row, numbered, only_rows, starts_with}

-- the keyword-operator words that may stand where the byte a does and are not n bytes long
abbrev pub kw_ops_off : ℕ → ℕ → List Row
kw_ops_off a n = only_rows (λ r. starts_with a r.1 && not (eqb (length r.1) n)) (numbered 0 kw_op_words)

-- n is how long each keyword-operator word is that may stand where the byte a does; the longest has 6 bytes
pub record Reach (a n : ℕ) : Type 0 where
  pub short : n ≤ 6
  pub each : kw_ops_off a n ≡ []
