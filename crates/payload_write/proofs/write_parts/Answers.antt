-- The second part stands after the first.
use Rattle.lemmas.proofs.Tails.{written_after}
use Rattle.payload_write.proofs.write_parts.Goals as goal

pub returns : goal.returns
returns c = written_after _ _ _ _ _ _ c.copy_part-n.ensures.bytes c.copy_part-n.ensures.all c.copy_part.ensures.bytes
