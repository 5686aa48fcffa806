-- `at_bar` is the best of places 34, 36, 40 and 42.
use mathlib.Core.Path.{refl}
use Rattle.definition.specs.Select.{lit_then_symbols}
use Rattle.definition.specs.Tables.{cps}
use Rattle.definition.specs.Utf8.{encode, encode_all}
use Rattle.select_places.proofs.Chains.{kept, placed}
use Rattle.select_operators.proofs.at_bar.Goals as goal

pub returns : goal.returns
unfolding cps encode_all encode lit_then_symbols
returns c =
    placed _ _ c.try_place.ensures
    (placed _ _ c.try_place-best.ensures
    (kept c.keep-best.ensures
    (placed _ _ c.alone-best.ensures refl c.match_lit.ensures)
    c.op_token.ensures)
    c.lit_then_symbols.ensures)
    c.symbols_after.ensures
