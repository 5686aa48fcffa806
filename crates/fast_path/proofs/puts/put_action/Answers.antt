-- A token is put; anything else is left.
use Rattle.fast_path.proofs.puts.put_action.Goals as goal

pub put_token-requires : goal.put_token-requires
put_token-requires c = rw c.in-Token.is at c.requires

pub returns : goal.returns
returns c = rw c.in-Token.is c.put_token.ensures
