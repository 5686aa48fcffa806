-- `at_letter` is the choice of place 14.
use mathlib.Core.Path.{refl}
use Rattle.select_places.proofs.Chains.{placed}
use Rattle.select_letters.proofs.at_letter.Goals as goal

pub returns : goal.returns
returns c = placed _ _ c.alone.ensures refl c.name_after.ensures
