-- `at_token` is the choice of place 36.
use mathlib.Core.Path.{refl}
use Rattle.select_places.proofs.Chains.{kept}
use Rattle.select_operators.proofs.at_token.Goals as goal

pub returns : goal.returns
returns c = kept c.first.ensures refl c.op_token.ensures
