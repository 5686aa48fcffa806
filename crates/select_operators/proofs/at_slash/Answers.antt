-- `at_slash` is the best of places 29, 30, 36 and 48.
use mathlib.Core.Path.{refl}
use Rattle.definition.specs.Tables.{cps}
use Rattle.definition.specs.Utf8.{encode, encode_all}
use Rattle.select_places.proofs.Chains.{kept, placed}
use Rattle.select_operators.proofs.at_slash.Goals as goal

pub returns : goal.returns
unfolding cps encode_all encode
returns c =
    placed _ _ c.try_place.ensures
    (kept c.keep-best.ensures
    (placed _ _ c.try_place-best.ensures
    (placed _ _ c.alone-best.ensures refl c.match_lit.ensures)
    c.match_lit-2.ensures)
    c.op_token.ensures)
    c.symbols_after.ensures
