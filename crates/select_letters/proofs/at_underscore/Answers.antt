-- `at_underscore` is the best of places 4, 5, 6 and 14.
use mathlib.Core.Path.{refl}
use Rattle.definition.specs.Tables.{cps}
use Rattle.definition.specs.Utf8.{encode, encode_all}
use Rattle.select_places.proofs.Chains.{placed}
use Rattle.select_letters.proofs.at_underscore.Goals as goal

pub returns : goal.returns
unfolding cps encode_all encode
returns c =
    placed _ _ c.try_place.ensures
    (placed _ _ c.try_place-best-2.ensures
    (placed _ _ c.try_place-best.ensures
    (placed _ _ c.alone-best.ensures refl c.match_lit.ensures)
    c.match_lit-2.ensures)
    c.match_lit-3.ensures)
    c.name_after.ensures
