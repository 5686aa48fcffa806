-- A character of a name is one of a run between backticks.
use mathlib.Core.Path.{◌∙◌}
use Rattle.matchers.proofs.QuoteLaws.{one_tick}
use Rattle.matchers.proofs.quoted.one_in_backticks.Goals as goal

pub returns : goal.returns
returns c = c.one_char.ensures ∙ one_tick _ _
