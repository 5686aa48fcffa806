-- The two kinds are the definition's.
use Rattle.definition.specs.Kinds.{kind, kind_names, number_from}
use Rattle.read_blob.proofs.kind_of.Goals as goal

pub returns-then-lang : goal.returns-then-lang
unfolding kind kind_names number_from
returns-then-lang c = rw c.if-lang.true

pub returns : goal.returns
unfolding kind kind_names number_from
returns c = rw c.if-lang.false
