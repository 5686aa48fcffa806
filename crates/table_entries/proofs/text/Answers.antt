-- The texts in the code are those of the definition's tables, and the other entries have none.
use mathlib.Core.Path.{refl}
use native.Mathlib.Omega.{arith}
use Rattle.definition.specs.Utf8.{encode, encode_all}
use Rattle.definition.specs.Tables.{cps, keywords, constructors, uoperators, op_tokens, mixfix_rules}
use Rattle.lemmas.proofs.Pointed.{now_at}
use Rattle.table_entries.specs.Entries.{entries, texts}
use Rattle.table_entries.proofs.TextLaws.{text_in, no_text}
use Rattle.table_entries.proofs.text.Goals as goal
use Rattle.table_entries.proofs.text.Goals.{in_default-via-then-k-lt65, in_default-via-else-k-lt65+else-k-lt120}

pub returns-in-65-to-119 : goal.returns-in-65-to-119
unfolding texts entries keywords constructors uoperators op_tokens mixfix_rules cps encode_all encode
returns-in-65-to-119 c = rw (now_at _ _) (text_in texts 65 55 c.args.k (omega arith) (omega arith))

pub returns-in-180 : goal.returns-in-180
unfolding texts entries keywords constructors uoperators op_tokens mixfix_rules cps encode_all encode
returns-in-180 c = rw c.in-180.is refl

pub returns-in_default : goal.returns-in_default
unfolding texts entries keywords constructors uoperators op_tokens mixfix_rules cps encode_all encode
returns-in_default c = elim c.in_default.branch [
  | in_default-via-then-k-lt65 w ↦ no_text texts 0 65 c.args.k refl (omega arith) (omega arith)
  | in_default-via-else-k-lt65+else-k-lt120 w ↦ no_text texts 120 60 c.args.k refl (omega arith) (omega arith)
]
