-- The state is the definition's after what was read.
use Rattle.reader.proofs.cursors.moved.Goals as goal

pub returns : goal.returns
returns c = rw c.advance.ensures
