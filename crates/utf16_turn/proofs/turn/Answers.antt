-- The first run's turn is asked for and done, and then its record is counted again.
use mathlib.Core.Path.{◌∙◌}
use mathlib.Core.List.{[]}
use Rattle.run_turn.proofs.RunLaws.{between_any}
use Rattle.utf16_turn.proofs.LookLaws.{between_still, turn_still}
use Rattle.utf16_turn.proofs.TurnLaws.{part_fits, counting_asked, item_counted, counted_length}
use native.Mathlib.Omega.{arith}
use Rattle.utf16_turn.proofs.turn.Goals as goal

pub look_ahead-ahead-requires : goal.look_ahead-ahead-requires
look_ahead-ahead-requires c =
    let p = c.requires in
    (rw c.first_cursor-from.ensures (between_any p.0.between [] (omega arith)), p.1)

pub turn-requires : goal.turn-requires
turn-requires c =
    let l = c.look_ahead-ahead.ensures in
    let b = c.requires.0.between in
    (between_still c.first_cursor-from.ensures l.records l.payload b, l.ahead _ b.named)

pub overflow_mul-first : goal.overflow_mul-first
overflow_mul-first c = omega (arith, c.requires.0.between.kept.few)

pub offset_bounds-records-first : goal.offset_bounds-records-first
offset_bounds-records-first c = omega (arith, c.requires.0.between.kept.few)

pub overflow_add-first : goal.overflow_add-first
overflow_add-first c = omega (arith, c.requires.0.between.kept.few)

pub slice_bounds-recount_item-end : goal.slice_bounds-recount_item-end
slice_bounds-recount_item-end c =
    let l = c.look_ahead-ahead.ensures in
    let e = c.first_cursor-from.ensures in
    let b = c.requires.0 in
    let x = rw c.in-Wrote.is at c.turn.ensures in
    let ran = rw (turn_still e l.records l.payload c.args.text.now c.args.name.now c.args.classes.now c.args.count c.args.used) at x in
    let ahead = rw e at (l.ahead c.args.name.now b.between.named) in
    omega (arith, part_fits b ran ahead, c.turn.auto.records, c.look_ahead-ahead.auto.records)

pub recount_item-on-requires : goal.recount_item-on-requires
recount_item-on-requires c =
    let l = c.look_ahead-ahead.ensures in
    let e = c.first_cursor-from.ensures in
    let b = c.requires.0 in
    let x = rw c.in-Wrote.is at c.turn.ensures in
    let ran = rw (turn_still e l.records l.payload c.args.text.now c.args.name.now c.args.classes.now c.args.count c.args.used) at x in
    let ahead = rw e at (l.ahead c.args.name.now b.between.named) in
    counting_asked b ran ahead

pub returns-in-Stop : goal.returns-in-Stop
returns-in-Stop c =
    let l = c.look_ahead-ahead.ensures in
    let e = c.first_cursor-from.ensures in
    let b = c.requires.0 in
    let x = rw c.in-Stop.is at c.turn.ensures in
    rw e at (rw (turn_still e l.records l.payload c.args.text.now c.args.name.now c.args.classes.now c.args.count c.args.used) at x)

pub shape_of-records-in-Wrote : goal.shape_of-records-in-Wrote
shape_of-records-in-Wrote c =
    let l = c.look_ahead-ahead.ensures in
    let e = c.first_cursor-from.ensures in
    let b = c.requires.0 in
    let x = rw c.in-Wrote.is at c.turn.ensures in
    let ran = rw (turn_still e l.records l.payload c.args.text.now c.args.name.now c.args.classes.now c.args.count c.args.used) at x in
    let ahead = rw e at (l.ahead c.args.name.now b.between.named) in
    counted_length b ran ahead c.recount_item-on.ensures

pub shape_of-payload-in-Wrote : goal.shape_of-payload-in-Wrote
shape_of-payload-in-Wrote c = c.turn.auto.payload ∙ c.look_ahead-ahead.auto.payload

pub returns-in-Wrote : goal.returns-in-Wrote
returns-in-Wrote c =
    let l = c.look_ahead-ahead.ensures in
    let e = c.first_cursor-from.ensures in
    let b = c.requires.0 in
    let x = rw c.in-Wrote.is at c.turn.ensures in
    let ran = rw (turn_still e l.records l.payload c.args.text.now c.args.name.now c.args.classes.now c.args.count c.args.used) at x in
    let ahead = rw e at (l.ahead c.args.name.now b.between.named) in
    item_counted b ran ahead c.recount_item-on.ensures
