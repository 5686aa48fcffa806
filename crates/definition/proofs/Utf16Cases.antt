-- The tables of specs/Utf16Cases.antt, as two tests that the checker computes. Rests on nothing but the definition.
use mathlib.Core.Path.{◌≡◌, refl}
use mathlib.Core.List.{map}
use Rattle.definition.specs.Listed.{listed}
use Rattle.definition.specs.Cases.{texts, expected}
use Rattle.definition.specs.Utf16Cases.{position_cases, positions_of, utf16_listed, utf16_rows}
use Rattle.definition.proofs.Computed.{equal_rows}

pub positions : map (λ text. map positions_of (utf16_listed text)) (texts position_cases) ≡ expected position_cases
unfolding listed utf16_listed position_cases
positions = refl

pub rows : map (λ r. r.1) utf16_rows ≡ map (λ r. r.2) utf16_rows
unfolding listed utf16_listed utf16_rows
rows = equal_rows (map (λ r. r.1) utf16_rows) (map (λ r. r.2) utf16_rows) refl
