-- Cleaned numbers. s is the text.
use Rattle.std.specs.Prelude.{ℕ, ◌≤◌, ◌≡◌}
use Rattle.definition.specs.Basics.{Bytes}
use Rattle.definition.specs.Text.{lexeme}
use Rattle.definition.specs.Numbers.{clean_number}
use Rattle.number_value.specs.declared.cleaning.Part.{Part}

-- the part that is left of the number between i and e
pub record CleanedAt (s : Bytes) (i e : ℕ) (part : Part) : Type 0 where
  pub ordered : part.from ≤ part.to
  pub within : part.to ≤ e
  pub is : lexeme s part.from part.to ≡ clean_number (lexeme s i e)
