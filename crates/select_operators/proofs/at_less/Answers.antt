-- `at_less` is the best of places 33, 36, 37 and 44.
use mathlib.Core.Path.{refl}
use Rattle.definition.specs.Tables.{cps}
use Rattle.definition.specs.Utf8.{encode, encode_all}
use Rattle.select_places.proofs.Chains.{kept, placed}
use Rattle.select_operators.proofs.at_less.Goals as goal

pub returns : goal.returns
unfolding cps encode_all encode
returns c =
    placed _ _ c.try_place.ensures
    (kept c.try_place-best.ensures
    (kept c.keep-best.ensures
    (placed _ _ c.alone-best.ensures refl c.match_lit.ensures)
    c.op_token.ensures)
    refl)
    c.symbols_after.ensures
