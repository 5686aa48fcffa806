-- The known place is one of the line where its line is the same.
use mathlib.Core.Path.{refl, sym, ◌∙◌}
use Rattle.utf16_positions.proofs.PlaceLaws.{line_is}
use mathlib.Core.Logic.{inl, inr}
use Rattle.utf16_positions.proofs.places.count_from.Goals as goal

pub returns-then-place-col : goal.returns-then-place-col
returns-then-place-col c = inr (line_is _ _ (sym c.eq.ensures ∙ c.if-eq.true), c.if-place-col.true, refl)

pub returns-else-place-col : goal.returns-else-place-col
returns-else-place-col c = inl refl

pub returns-else-eq : goal.returns-else-eq
returns-else-eq c = inl refl
