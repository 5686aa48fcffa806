-- `at_token_letter` is the better of places 14 and 36.
use Rattle.select_places.proofs.Chains.{kept}
use Rattle.select_letters.proofs.at_token_letter.Goals as goal

pub returns : goal.returns
returns c = kept c.keep.ensures c.at_letter.ensures c.op_token.ensures
