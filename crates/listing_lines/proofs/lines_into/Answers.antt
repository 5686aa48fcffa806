use native.Mathlib.Omega.{arith}
use lib.ListN.{length-append}
use Rattle.listing_lines.proofs.LineLaws.{tail_size, lined_starts, lined_more, lined_on, lined_ends}
use Rattle.listing_lines.proofs.lines_into.Goals as goal

pub loop-record-init : goal.loop-record-init
loop-record-init c =
    let from = c.chunks_exact-record-items.ensures in
    rw c.into_iter-record-iterator.ensures.into_iter_gives (lined_starts _ from.size from.rest)

pub slice_bounds-line_into-count : goal.slice_bounds-line_into-count
slice_bounds-line_into-count c =
    let i = c.loop-record.invariant in
    let p = c.requires in
    omega (arith, c.loop-record.auto.out, i.short, i.few, p.lines)

pub slice_bounds-line_into-start : goal.slice_bounds-line_into-start
slice_bounds-line_into-start c =
    let i = c.loop-record.invariant in
    let p = c.requires in
    omega (arith, c.loop-record.auto.out, i.short, i.few, p.lines)

pub line_into-at-requires : goal.line_into-at-requires
line_into-at-requires c =
    let i = c.loop-record.invariant in
    let p = c.requires in
    let s = c.in-Some.ensures.steps.1 in (
      omega (arith, s.1, i.each),
      omega (arith, tail_size c.loop-record.out c.loop-record.at, c.loop-record.auto.out, i.short, lined_more i _ _ p.records s.0 s.1, p.lines),
    )

pub overflow_add-at : goal.overflow_add-at
overflow_add-at c =
    let i = c.loop-record.invariant in
    let p = c.requires in
    let s = c.in-Some.ensures.steps.1 in
    omega (arith, c.line_into-at.ensures.1, i.short, lined_more i _ _ p.records s.0 s.1, p.lines)

pub loop-record-preserved : goal.loop-record-preserved
loop-record-preserved c =
    let i = c.loop-record.invariant in
    let s = c.in-Some.ensures.steps in
    rw length-append (lined_on i _ _ c.requires.records s.1.0 s.1.1 s.0 c.line_into-at.ensures)

pub returns : goal.returns
returns c = lined_ends c.loop-record.invariant c.requires.records c.in-None.ensures.steps.1.0
