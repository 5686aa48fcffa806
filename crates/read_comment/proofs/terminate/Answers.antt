-- `terminate` reads what the definition's gives: its width, its length and its position are the definition's.
use native.Mathlib.Omega.{arith}
use Rattle.reader.proofs.Standing.{asks_here}
use Rattle.read_comment.proofs.Small.{small}
use Rattle.read_comment.proofs.PieceLaws.{piece_short, piece_reads}
use Rattle.read_comment.proofs.terminate.Goals as goal

pub pos_of-here-requires : goal.pos_of-here-requires
pos_of-here-requires c = asks_here c.requires.standing

pub close_comment-next-requires : goal.close_comment-next-requires
close_comment-next-requires c =
    let h = small c.requires.standing.stands in
    omega (arith, h.counts)

pub overflow_cast-item : goal.overflow_cast-item
overflow_cast-item c =
    omega (arith, piece_short c.args.from c.requires c.trim_width-width.result c.trimmed_length-length.ensures)

pub returns : goal.returns
returns c =
    piece_reads _ c.requires c.trim_width-width.ensures c.trimmed_length-length.ensures
    c.pos_of-here.ensures c.close_comment-next.ensures
