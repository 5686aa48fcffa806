-- The blank is stored, and the digits stand after it.
use native.Mathlib.Omega.{arith}
use lib.ListN.{length-set, length-take, length-drop}
use Rattle.listing_lines.proofs.LineLaws.{word_size, wrote_length, number_wrote}
use Rattle.listing_lines.proofs.number_into.Goals as goal

pub slice_bounds-show_into-count : goal.slice_bounds-show_into-count
slice_bounds-show_into-count c = simp length-set (omega (arith, c.requires))

pub slice_bounds-show_into-start : goal.slice_bounds-show_into-start
slice_bounds-show_into-start c = simp length-set (omega (arith, c.requires))

pub show_into-requires : goal.show_into-requires
show_into-requires c =
    simp (length-take, length-drop, length-set) (omega (arith, c.requires, word_size c.args.n (omega arith)))

pub overflow_add-result : goal.overflow_add-result
overflow_add-result c =
    omega (arith, c.show_into.ensures.all, word_size c.args.n (omega arith))

pub shape_of-out : goal.shape_of-out
shape_of-out c =
    let w = number_wrote {l = c.args.out.now} c.args.n (omega (arith, c.requires)) c.show_into.ensures in
    wrote_length w (omega (arith, w.all, c.requires, word_size c.args.n (omega arith)))

pub returns : goal.returns
returns c =
    let w = c.show_into.ensures in
    (number_wrote c.args.n (omega (arith, c.requires)) w, omega (arith, w.all, word_size c.args.n (omega arith)))
