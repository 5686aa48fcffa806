-- `early_byte` reads the rows of the definition's early literals: the code's rows are those that its table gives.
use mathlib.Core.Path.{refl}
use Rattle.definition.specs.Utf8.{encode, encode_all}
use Rattle.definition.specs.Tables.{cps, early_literals}
use Rattle.table_early.proofs.early_byte.Goals as goal

pub returns : goal.returns
unfolding early_literals cps encode_all encode
returns c = refl
