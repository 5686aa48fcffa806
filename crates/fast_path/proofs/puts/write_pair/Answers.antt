-- Each buffer's tail comes back written over.
use Rattle.lemmas.proofs.Tails.{lent}
use Rattle.fast_path.proofs.puts.write_pair.Goals as goal

pub returns : goal.returns
returns c = (lent _ _ _ _ c.write_token.ensures, λ name f. lent _ _ _ _ (c.write_short.ensures name f))
