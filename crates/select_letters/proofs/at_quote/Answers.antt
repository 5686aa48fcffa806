-- `at_quote` is the best of places 9, 10 and 14.
use mathlib.Core.Path.{refl}
use Rattle.select_places.proofs.Chains.{placed}
use Rattle.select_letters.proofs.at_quote.Goals as goal

pub returns : goal.returns
returns c =
    placed _ _ c.try_place.ensures
    (placed _ _ c.try_place-best.ensures
    (placed _ _ c.alone-best.ensures refl c.match_char_lit.ensures)
    c.match_char_lit-2.ensures)
    c.name_after.ensures
