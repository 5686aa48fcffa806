-- `early_kind` is the kind of the definition's entry: the code's kinds are those of its table.
use lib.ListN.{get_or-map}
use Rattle.definition.specs.Kinds.{kind, kind_names, number_from}
use Rattle.definition.specs.Tables.{Entry, early_literals, no_entry}
use Rattle.table_early.proofs.early_kind.Goals as goal

pub returns : goal.returns
unfolding early_literals kind kind_names number_from
returns c = get_or-map (λ (e : Entry). kind e.kind) early_literals c.args.word no_entry
