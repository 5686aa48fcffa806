-- `at_keyword_letter` is the better of places 12 and 14.
use mathlib.Core.Path.{refl}
use Rattle.select_places.proofs.Chains.{kept, placed}
use Rattle.select_letters.proofs.at_keyword_letter.Goals as goal

pub returns : goal.returns
returns c =
    placed _ _ c.try_place.ensures
    (kept c.first-best.ensures refl c.kw_op.ensures)
    c.name_after.ensures
