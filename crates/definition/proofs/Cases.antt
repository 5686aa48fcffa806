-- The twelve lines of document 01 that are marked (M), as one claim: the checker computes the definition on every text of the
-- table in specs/Cases.antt; and likewise on the two texts beside it, on the table of surrogates, and on that of the bytes that items were
-- read from. Rests on nothing but the definition.
use mathlib.Core.Path.{◌≡◌, refl}
use mathlib.Core.List.{map}
use Rattle.definition.specs.Listed.{listed}
use Rattle.definition.specs.Cases.{no_ranges, m_cases, misreading_cases, surrogate_cases, span_cases, span_of, texts, expected}

pub m_lines : map (λ text. listed text no_ranges) (texts m_cases) ≡ expected m_cases
unfolding listed m_cases
m_lines = refl

pub misreadings : map (λ text. listed text no_ranges) (texts misreading_cases) ≡ expected misreading_cases
unfolding listed misreading_cases
misreadings = refl

pub surrogates : map (λ text. listed text no_ranges) (texts surrogate_cases) ≡ expected surrogate_cases
unfolding listed surrogate_cases
surrogates = refl

pub spans : map (λ text. map span_of (listed text no_ranges)) (texts span_cases) ≡ expected span_cases
unfolding listed span_cases
spans = refl
