-- The letter and the blank are stored, and the name stands after them.
use native.Mathlib.Omega.{arith}
use lib.ListN.{length-set, length-take, length-drop, get_or}
use Rattle.listing_lines.proofs.LineLaws.{name_size, wrote_length, head_wrote}
use Rattle.listing_lines.proofs.head_into.Goals as goal

pub bounds-out-1 : goal.bounds-out-1
bounds-out-1 c = simp length-set (omega (arith, c.requires.1))

pub slice_bounds-name_into-count : goal.slice_bounds-name_into-count
slice_bounds-name_into-count c = simp length-set (omega (arith, c.requires.1))

pub slice_bounds-name_into-start : goal.slice_bounds-name_into-start
slice_bounds-name_into-start c = simp length-set (omega (arith, c.requires.1))

pub name_into-requires : goal.name_into-requires
name_into-requires c =
    simp (length-take, length-drop, length-set) (omega (arith, name_size (get_or c.args.words.now 1 0), c.requires.1))

pub overflow_add-result : goal.overflow_add-result
overflow_add-result c =
    omega (arith, c.name_into.ensures.all, name_size (get_or c.args.words.now 1 0))

pub shape_of-out : goal.shape_of-out
shape_of-out c =
    let w = head_wrote {l = c.args.out.now} c.args.words.now _ c.letter.ensures (omega (arith, c.requires.1)) c.name_into.ensures in
    wrote_length w.0 (omega (arith, w.1, c.requires.1))

pub returns : goal.returns
returns c =
    head_wrote c.args.words.now _ c.letter.ensures (omega (arith, c.requires.1)) c.name_into.ensures
