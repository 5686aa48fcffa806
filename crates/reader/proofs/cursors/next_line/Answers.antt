-- The state is the definition's new line after what was read.
use Rattle.reader.proofs.cursors.next_line.Goals as goal

pub new_line-requires : goal.new_line-requires
new_line-requires c = rw c.advance-read.ensures c.requires.1

pub returns : goal.returns
returns c = rw (c.new_line.ensures, c.advance-read.ensures)
