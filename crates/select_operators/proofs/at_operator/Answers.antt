-- `at_operator` is the choice of one place.
use mathlib.Core.Path.{refl}
use Rattle.select_places.proofs.Chains.{placed}
use Rattle.select_operators.proofs.at_operator.Goals as goal

pub returns : goal.returns
returns c = placed _ _ c.alone.ensures refl c.symbols_after.ensures
