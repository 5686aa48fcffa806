-- `try_usuffix` is the better of the best so far and a suffix after either end, with a u before it.
use mathlib.Core.Path.{refl, ◌∙◌}
use Rattle.select_places.proofs.Chains.{placed}
use Rattle.match_number.proofs.IntegerLaws.{ends_of, usuffix_is}
use Rattle.select_numbers.proofs.try_usuffix.Goals as goal

pub returns : goal.returns
returns c = placed _ _ c.try_place.ensures refl (ends_of _ _ _ c.usuffix_after.ensures c.requires ∙ usuffix_is _ _ _)
