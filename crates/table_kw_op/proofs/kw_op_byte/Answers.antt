-- `kw_op_byte` reads the rows of the definition's keyword operators: the code's rows are those that its table gives.
use mathlib.Core.Path.{refl}
use Rattle.definition.specs.Utf8.{encode, encode_all}
use Rattle.definition.specs.Tables.{cps, kw_op_rules}
use Rattle.table_kw_op.proofs.kw_op_byte.Goals as goal

pub returns : goal.returns
unfolding kw_op_rules cps encode_all encode
returns c = refl
