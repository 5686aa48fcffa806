-- The lexeme is looked up in its table.
use mathlib.Core.Path.{refl}
use Rattle.definition.specs.Kinds.{kind, kind_names, number_from}
use Rattle.definition.specs.Tables.{constructors}
use Rattle.rule_words.proofs.Entries.{constructors_stored, placed, table_rules}
use native.Mathlib.Omega.{arith}
use Rattle.rule_words.proofs.capital_name.Goals as goal

pub worded-requires : goal.worded-requires
unfolding constructors
worded-requires c = placed 86 _ constructors (omega arith) c.constructor.ensures

pub returns : goal.returns
unfolding constructors kind kind_names number_from
returns c = λ name. table_rules c.requires name _ _ 86 constructors "NAME" constructors_stored (omega arith) c.constructor.ensures refl (c.worded.ensures _ name c.requires)
