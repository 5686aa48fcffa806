-- `match_int_suffix` is the definition's `match_int_suffix`: a suffix after either end.
use mathlib.Core.Path.{◌∙◌}
use Rattle.match_number.proofs.IntegerLaws.{ends_of, suffix_is}
use Rattle.match_number.proofs.match_int_suffix.Goals as goal

pub returns : goal.returns
returns c = ends_of _ _ _ c.suffix_after.ensures c.any_integer_ends.ensures ∙ suffix_is _ _ _
