use Rattle.payload_write.proofs.WriteLaws.{writing_starts, writing_length, writing_ends, writing_puts, writing_fits, writing_less, writing_on}
use native.Mathlib.Omega.{arith}
use Rattle.payload_write.proofs.literals.write_literal.Goals as goal

pub loop-at-init : goal.loop-at-init
loop-at-init c = writing_starts c.requires

pub string_move-m-requires : goal.string_move-m-requires
string_move-m-requires c = c.requires.accepted

pub slice_bounds-put-count : goal.slice_bounds-put-count
slice_bounds-put-count c =
    let w = c.loop-at.invariant in
    omega (arith, writing_length w, w.room, c.loop-at-test.true)

pub slice_bounds-put-start : goal.slice_bounds-put-start
slice_bounds-put-start c = slice_bounds-put-count c

pub put-at-requires : goal.put-at-requires
put-at-requires c = writing_puts c.loop-at.invariant c.loop-at-test.true c.string_move-m.ensures

pub overflow_add-at : goal.overflow_add-at
overflow_add-at c = omega (arith, writing_fits c.loop-at.invariant c.loop-at-test.true c.string_move-m.ensures c.put-at.ensures)

pub loop-at-smaller : goal.loop-at-smaller
loop-at-smaller c = writing_less c.loop-at.invariant c.loop-at-test.true c.string_move-m.ensures c.end_of-i.ensures

pub loop-at-preserved : goal.loop-at-preserved
loop-at-preserved c = writing_on c.loop-at.invariant c.loop-at-test.true c.string_move-m.ensures c.put-at.ensures c.end_of-i.ensures

pub shape_of-out : goal.shape_of-out
shape_of-out c = writing_length c.loop-at.invariant

pub returns : goal.returns
returns c = writing_ends c.loop-at.invariant c.loop-at-test.false
