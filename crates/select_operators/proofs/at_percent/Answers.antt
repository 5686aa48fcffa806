-- `at_percent` is the best of places 1, 36 and 48.
use mathlib.Core.Path.{refl}
use Rattle.select_places.proofs.Chains.{kept, placed}
use Rattle.select_operators.proofs.at_percent.Goals as goal

pub returns : goal.returns
returns c =
    placed _ _ c.try_place.ensures
    (kept c.keep-best.ensures
    (kept c.first-best.ensures refl c.early_literal.ensures)
    c.op_token.ensures)
    c.symbols_after.ensures
