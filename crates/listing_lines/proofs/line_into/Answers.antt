-- The numbers stand after the name, and the line feed after them.
use native.Mathlib.Omega.{arith}
use lib.ListN.{length-set}
use Rattle.listing_lines.proofs.LineLaws.{wrote_more, wrote_length, line_wrote}
use Rattle.listing_lines.proofs.line_into.Goals as goal

pub shape_of-out : goal.shape_of-out
shape_of-out c =
    let w = wrote_more {l = c.args.out.now} c.head_into-named.ensures.0 c.numbers_into.ensures.0 in
    simp length-set (wrote_length w (omega (arith, c.head_into-named.ensures.1, c.numbers_into.ensures.1, c.requires.1)))

pub returns : goal.returns
returns c =
    let h = c.head_into-named.ensures in
    let n = c.numbers_into.ensures in
    (line_wrote c.args.words.now (wrote_more h.0 n.0) (omega (arith, h.1, n.1, c.requires.1)), omega (arith, h.1, n.1))
