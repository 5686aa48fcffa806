-- `try_suffix` is the better of the best so far and a suffix after either end.
use mathlib.Core.Path.{refl, ◌∙◌}
use Rattle.select_places.proofs.Chains.{placed}
use Rattle.match_number.proofs.IntegerLaws.{ends_of, suffix_is}
use Rattle.select_numbers.proofs.try_suffix.Goals as goal

pub returns : goal.returns
returns c = placed _ _ c.try_place.ensures refl (ends_of _ _ _ c.suffix_after.ensures c.requires ∙ suffix_is _ _ _)
