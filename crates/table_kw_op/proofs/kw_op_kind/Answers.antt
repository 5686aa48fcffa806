-- `kw_op_kind` is the kind that the definition's entry has before operator characters: the code's kinds are those of its table.
use lib.ListN.{get_or-map}
use Rattle.definition.specs.Kinds.{kind, kind_names, number_from}
use Rattle.definition.specs.Tables.{KwOp, kw_op_rules, no_kw_op}
use Rattle.table_kw_op.proofs.kw_op_kind.Goals as goal

pub returns : goal.returns
unfolding kw_op_rules kind kind_names number_from
returns c = get_or-map (λ (x : KwOp). kind x.op_kind) kw_op_rules c.args.word no_kw_op
