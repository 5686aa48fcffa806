-- The kind and the payload are those of the place and the word.
use Rattle.rule_table.proofs.PlainLaws.{plain_rules}
use Rattle.rule_table.proofs.plain.plain.Goals as goal

pub returns : goal.returns
returns c = λ s name h named. plain_rules h c.plain_kind-kind.ensures (c.plain_payload-payload.ensures s name h named)
