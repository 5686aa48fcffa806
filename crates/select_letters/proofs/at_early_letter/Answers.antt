-- `at_early_letter` is the better of places 1 and 14.
use mathlib.Core.Path.{refl}
use Rattle.select_places.proofs.Chains.{kept, placed}
use Rattle.select_letters.proofs.at_early_letter.Goals as goal

pub returns : goal.returns
returns c =
    placed _ _ c.try_place.ensures
    (kept c.first-best.ensures refl c.early_literal.ensures)
    c.name_after.ensures
