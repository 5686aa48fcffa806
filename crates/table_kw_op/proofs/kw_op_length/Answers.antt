-- `kw_op_length` is the length of the definition's word: the code's lengths are those of its table.
use lib.ListN.{length, get_or-map}
use Rattle.definition.specs.Utf8.{encode, encode_all}
use Rattle.definition.specs.Tables.{KwOp, cps, kw_op_rules, no_kw_op}
use Rattle.table_kw_op.proofs.kw_op_length.Goals as goal

pub returns : goal.returns
unfolding kw_op_rules cps encode_all encode
returns c = get_or-map (λ (x : KwOp). length (cps x.word)) kw_op_rules c.args.word no_kw_op
