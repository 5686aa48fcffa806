-- Each buffer's tail comes back written over.
use Rattle.lemmas.proofs.Tails.{lent}
use Rattle.run_turn.proofs.write_item.Goals as goal

pub returns : goal.returns
returns c = (lent _ _ _ _ c.write_record.ensures, lent _ _ _ _ c.write.ensures)
