-- The token stands where the state does, which is asked for once.
use Rattle.definition.specs.Kinds.{kind, kind_names, number_from}
use Rattle.reader.proofs.Standing.{asks_here}
use Rattle.step.proofs.StepLaws.{eof_reads}
use Rattle.step.proofs.end_of_text.Goals as goal

pub pos_of-here-requires : goal.pos_of-here-requires
pos_of-here-requires c = asks_here c.requires

pub returns : goal.returns
unfolding kind kind_names number_from
returns c = eof_reads c.requires c.pos_of-here.ensures c.ended.ensures (λ f bytes d q. c.token.ensures _ f bytes d q)
