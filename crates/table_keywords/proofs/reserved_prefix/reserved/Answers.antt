use mathlib.Core.Path.{◌∙◌}
use Rattle.definition.specs.Utf8.{encode, encode_all}
use Rattle.definition.specs.Tables.{cps}
use Rattle.definition.specs.Token.{starts_with}
use Rattle.table_words.proofs.WordLaws.{compares}
use Rattle.table_keywords.proofs.reserved_prefix.reserved.Goals as goal

pub returns : goal.returns
unfolding starts_with cps encode_all encode
returns c = c.starts_with.ensures.value ∙ compares _ _
