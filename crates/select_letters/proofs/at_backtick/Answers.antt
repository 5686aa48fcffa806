-- `at_backtick` is the best of places 1, 2, 11 and 32.
use mathlib.Core.Path.{refl}
use Rattle.definition.specs.Tables.{cps}
use Rattle.definition.specs.Utf8.{encode, encode_all}
use Rattle.select_places.proofs.Chains.{kept, placed}
use Rattle.select_letters.proofs.at_backtick.Goals as goal

pub returns : goal.returns
unfolding cps encode_all encode
returns c =
    placed _ _ c.try_place.ensures
    (kept c.try_place-best-2.ensures
    (placed _ _ c.try_place-best.ensures
    (kept c.first-best.ensures refl c.early_literal.ensures)
    c.lit_then_ident.ensures)
    refl)
    c.match_backtick_ident.ensures
