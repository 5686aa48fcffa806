-- The words in the code are those of the definition's tables.
use mathlib.Core.Path.{refl}
use Rattle.definition.specs.Utf8.{encode, encode_all}
use Rattle.definition.specs.Tables.{cps, keywords, constructors, uoperators}
use Rattle.lemmas.proofs.Pointed.{now_at}
use Rattle.table_words.specs.Words.{words}
use Rattle.table_words.proofs.spellings.word.Goals as goal

pub returns : goal.returns
unfolding words keywords constructors uoperators cps encode_all encode
returns c = rw (now_at _ _) refl
