use mathlib.Core.Path.{◌∙◌}
use Rattle.table_words.proofs.WordLaws.{compares}
use Rattle.table_words.proofs.spellings.spells.Goals as goal

pub returns : goal.returns
returns c = c.eq.ensures ∙ compares _ _
