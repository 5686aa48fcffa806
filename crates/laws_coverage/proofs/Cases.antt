-- The table of K4 as one claim: the checker computes what the definition takes of every text of specs/Cases.antt. Rests on nothing but
-- the definition.
use mathlib.Core.Path.{◌≡◌, refl}
use mathlib.Core.List.{map}
use Rattle.definition.specs.Listed.{listed}
use Rattle.laws_coverage.specs.Coverage.{turns, takings, limit}
use Rattle.laws_coverage.specs.Cases.{Case, rows_from, cases}

pub takings_computed : map (λ (c : Case). rows_from c.0 c.1) cases ≡ map (λ (c : Case). (c.2, c.3)) cases
unfolding listed turns takings limit cases
takings_computed = refl
