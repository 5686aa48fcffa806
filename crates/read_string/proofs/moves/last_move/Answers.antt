-- The byte at the offset, if there is one, tells which of the three it is.
use Rattle.read_string.proofs.MoveLaws.{last_open, last_close, last_lone}
use Rattle.read_string.proofs.moves.last_move.Goals as goal

pub returns-then-text-i : goal.returns-then-text-i
returns-then-text-i c = last_open _ _ c.if-text-i.true

pub returns-then-text-i-eq34 : goal.returns-then-text-i-eq34
returns-then-text-i-eq34 c = last_close _ _ c.if-text-i.false c.if-text-i-eq34.true

pub returns : goal.returns
returns c = last_lone _ _ c.if-text-i.false c.if-text-i-eq34.false
