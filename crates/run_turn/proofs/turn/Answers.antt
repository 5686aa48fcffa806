-- Each return is a way that the definition's turn goes.
use Rattle.run_turn.specs.Running.{writing}
use Rattle.run_turn.proofs.TurnLaws.{turn_ended, turn_full, ahead_reads, long_ran, wrote_ran, size_small, measurable, item_fits}
use native.Mathlib.Omega.{arith}
use Rattle.run_turn.proofs.turn.Goals as goal

pub returns-then-ended : goal.returns-then-ended
returns-then-ended c =
    turn_ended _ _ _ (writing c.args.at c.args.count c.args.used c.args.records.now c.args.payload.now) c.if-ended.true

pub returns-then-records-first-lt-NEEDED : goal.returns-then-records-first-lt-NEEDED
returns-then-records-first-lt-NEEDED c =
    turn_full _ _ _ (writing c.args.at c.args.count c.args.used c.args.records.now c.args.payload.now) c.if-ended.false c.if-records-first-lt-NEEDED.true

pub read-r-requires : goal.read-r-requires
read-r-requires c =
    let p = c.requires in
    (p.1.readable c.if-ended.false, record { accepted = p.0.accepted; named = p.0.named })

pub length_of-size-requires : goal.length_of-size-requires
length_of-size-requires c =
    let p = c.requires in
    let awake = c.if-ended.false in
    measurable p.0 awake (ahead_reads p.1 awake c.read-r.ensures)

pub overflow_sub-payload : goal.overflow_sub-payload
overflow_sub-payload c = c.requires.0.kept.filled

pub returns-then-payload-used : goal.returns-then-payload-used
returns-then-payload-used c =
    let awake = c.if-ended.false in
    long_ran _ _ _ c.args.at c.args.count c.args.used c.args.records.now c.args.payload.now awake c.if-records-first-lt-NEEDED.false _ (ahead_reads c.requires.1 awake c.read-r.ensures) _ c.length_of-size.ensures c.if-payload-used.true

pub write_item-requires : goal.write_item-requires
write_item-requires c =
    let awake = c.if-ended.false in
    item_fits c.requires.0 awake (ahead_reads c.requires.1 awake c.read-r.ensures) c.if-records-first-lt-NEEDED.false c.length_of-size.ensures c.if-payload-used.false

pub overflow_add-result : goal.overflow_add-result
overflow_add-result c =
    let p = c.requires in
    let awake = c.if-ended.false in
    omega (arith, p.0.kept.spent, size_small p.0 awake (ahead_reads p.1 awake c.read-r.ensures), c.length_of-size.ensures)

pub returns : goal.returns
returns c =
    let awake = c.if-ended.false in
    wrote_ran _ _ _ c.args.at c.args.count c.args.used c.args.records.now c.args.payload.now awake c.if-records-first-lt-NEEDED.false _ (ahead_reads c.requires.1 awake c.read-r.ensures) _ c.length_of-size.ensures _ _ c.if-payload-used.false c.write_item.ensures.0 c.write_item.ensures.1
