-- The lexeme is looked up in its table.
use mathlib.Core.Path.{refl}
use Rattle.definition.specs.Kinds.{kind, kind_names, number_from}
use Rattle.definition.specs.Tables.{uoperators}
use Rattle.rule_words.proofs.Entries.{uoperators_stored, placed, table_rules}
use native.Mathlib.Omega.{arith}
use Rattle.rule_words.proofs.unicode_operator.Goals as goal

pub worded-requires : goal.worded-requires
unfolding uoperators
worded-requires c = placed 89 _ uoperators (omega arith) c.uoperator.ensures

pub returns : goal.returns
unfolding uoperators kind kind_names number_from
returns c = λ name. table_rules c.requires name _ _ 89 uoperators "OPINFIX4" uoperators_stored (omega arith) c.uoperator.ensures refl (c.worded.ensures _ name c.requires)
