-- `at_token_operator` is the better of place 36 and another.
use Rattle.select_places.proofs.Chains.{placed}
use Rattle.select_operators.proofs.at_token_operator.Goals as goal

pub returns : goal.returns
returns c =
    placed _ _ c.try_place.ensures
    c.at_token-best.ensures
    c.symbols_after.ensures
