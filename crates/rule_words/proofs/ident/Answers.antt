-- The prefix is looked at first, then the table of keywords.
use mathlib.Core.Path.{refl}
use Rattle.definition.specs.Kinds.{kind, kind_names, number_from}
use Rattle.definition.specs.Tables.{keywords}
use Rattle.rule_words.proofs.Entries.{keywords_stored, placed, table_rules, reserved_rules, ident_rules}
use native.Mathlib.Omega.{arith}
use Rattle.rule_words.proofs.ident.Goals as goal

pub returns-then-reserved : goal.returns-then-reserved
returns-then-reserved c = λ name. reserved_rules c.requires name _ c.reserved.ensures c.if-reserved.true

pub worded-requires : goal.worded-requires
unfolding keywords
worded-requires c = placed 0 _ keywords (omega arith) c.keyword.ensures

pub returns : goal.returns
unfolding keywords kind kind_names number_from
returns c = λ name. ident_rules c.requires name _ c.reserved.ensures c.if-reserved.false (table_rules c.requires name _ _ 0 keywords "IDENT" keywords_stored (omega arith) c.keyword.ensures refl (c.worded.ensures _ name c.requires))
