-- The error's token stands at the state's position, which is asked for once.
use Rattle.definition.specs.Kinds.{kind, kind_names, number_from}
use Rattle.reader.proofs.Standing.{asks_here}
use Rattle.reader.proofs.DescribedBuilding.{error_reads}
use Rattle.reader.proofs.tokens.lex_error.Goals as goal

pub pos_of-here-requires : goal.pos_of-here-requires
pos_of-here-requires c = asks_here c.requires.0

pub returns : goal.returns
unfolding kind kind_names number_from
returns c =
    λ f bytes q. error_reads _ _ c.requires.0 c.pos_of-here.ensures c.ended.ensures (c.token.ensures _ f bytes q)
