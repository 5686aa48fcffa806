-- One of the two.
use Rattle.read_blob.proofs.move_at.Goals as goal

pub returns-then-lang : goal.returns-then-lang
returns-then-lang c = rw c.if-lang.true c.lang_move.ensures

pub returns : goal.returns
returns c = rw c.if-lang.false c.blob_move.ensures
