-- A run ends at a backtick or a line's end.
use Rattle.read_blob.proofs.MoveLaws.{move_run, move_after}
use Rattle.read_blob.proofs.contents_move.Goals as goal

pub returns-then-i-j : goal.returns-then-i-j
returns-then-i-j c = move_run _ _ c.run_end-j.ensures c.if-i-j.true

pub returns : goal.returns
returns c = move_after _ _ c.run_end-j.ensures c.if-i-j.false c.after.ensures
