-- The token's length is that of its description.
use Rattle.reader.proofs.DescribedBuilding.{token_reads}
use Rattle.reader.proofs.tokens.token.Goals as goal

pub returns : goal.returns
returns c = λ s f bytes d q. token_reads s _ f bytes _ _ _ _ _ _ _ _ _ c.length_of-length.ensures d q
