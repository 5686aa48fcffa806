use native.Mathlib.Omega.{arith}
use Rattle.listing_lines.proofs.LineLaws.{shown_below, tail_size, numbered_starts, numbered_on, numbered_ends}
use Rattle.listing_lines.proofs.numbers_into.Goals as goal

pub loop-i-init : goal.loop-i-init
loop-i-init c = numbered_starts _ _ c.requires.1

pub offset_bounds-words-i : goal.offset_bounds-words-i
offset_bounds-words-i c = record { fits = omega (arith, shown_below c.loop-i.i-index) }

pub bounds-words-i : goal.bounds-words-i
bounds-words-i c = omega (arith, shown_below c.loop-i.i-index, c.requires.0)

pub slice_bounds-number_into-count : goal.slice_bounds-number_into-count
slice_bounds-number_into-count c =
    let i = c.loop-i.invariant in
    omega (arith, c.loop-i.auto.out, i.room, i.few, i.short)

pub slice_bounds-number_into-start : goal.slice_bounds-number_into-start
slice_bounds-number_into-start c =
    let i = c.loop-i.invariant in
    omega (arith, c.loop-i.auto.out, i.room, i.few, i.short)

pub number_into-at-requires : goal.number_into-at-requires
number_into-at-requires c =
    let i = c.loop-i.invariant in
    omega (arith, tail_size c.loop-i.out c.loop-i.at, c.loop-i.auto.out, i.room, i.short, c.loop-i-test.true)

pub overflow_add-at : goal.overflow_add-at
overflow_add-at c = omega (arith, c.number_into-at.ensures.1, c.loop-i.invariant.short, c.loop-i.invariant.few)

pub loop-i-preserved : goal.loop-i-preserved
loop-i-preserved c = numbered_on c.loop-i.invariant c.loop-i-test.true c.number_into-at.ensures

pub returns : goal.returns
returns c = numbered_ends c.loop-i.invariant c.loop-i-test.false
