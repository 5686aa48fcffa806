-- `at_star` is the better of places 39 and 48.
use mathlib.Core.Path.{refl}
use Rattle.definition.specs.Select.{lit_then_symbols}
use Rattle.definition.specs.Tables.{cps}
use Rattle.definition.specs.Utf8.{encode, encode_all}
use Rattle.select_places.proofs.Chains.{placed}
use Rattle.select_operators.proofs.at_star.Goals as goal

pub returns : goal.returns
unfolding cps encode_all encode lit_then_symbols
returns c =
    placed _ _ c.try_place.ensures
    (placed _ _ c.alone-best.ensures refl c.lit_then_symbols.ensures)
    c.symbols_after.ensures
