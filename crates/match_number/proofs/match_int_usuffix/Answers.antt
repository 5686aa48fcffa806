-- `match_int_usuffix` is the definition's `match_int_usuffix`: u and a suffix after either end.
use mathlib.Core.Path.{◌∙◌}
use Rattle.match_number.proofs.IntegerLaws.{ends_of, usuffix_is}
use Rattle.match_number.proofs.match_int_usuffix.Goals as goal

pub returns : goal.returns
returns c = ends_of _ _ _ c.usuffix_after.ensures c.any_integer_ends.ensures ∙ usuffix_is _ _ _
