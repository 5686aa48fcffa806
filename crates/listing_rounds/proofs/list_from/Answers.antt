-- What one round lists carries `Going` and `Written` on to the next, and ends the listing where it is the last.
use Rattle.std.proofs.Common.{arith, sym}
use Rattle.std.proofs.lemmas.List.{length-take-le}
use Rattle.definition.specs.Utf8.{encode, encode_all}
use Rattle.definition.specs.Tables.{cps}
use Rattle.listing_lines.proofs.LineLaws.{wrote_within}
use Rattle.listing_rounds.specs.Rounds.{Told}
use Rattle.listing_rounds.proofs.RunsOn.{going_starts, going_on, round_fewer, round_wrote, round_few, ends_refused, ends_all}
use Rattle.listing_rounds.proofs.Written.{written_none, written_on, written_all, written_refused}
use Rattle.listing_rounds.proofs.list_from.Goals as goal

pub loop-refusal-init : goal.loop-refusal-init
loop-refusal-init g c = record {
  going = going_starts _ _ _ _ _ _ _ c.requires.0 c.requires.1;
  written = written_none _ _ _ _ _;
}

pub returns-in-Err-clause-ends : goal.returns-in-Err-clause-ends
unfolding Told
returns-in-Err-clause-ends g c = ends_refused c.loop-refusal.invariant.going c.in-Err.ensures

pub returns-in-Err-clause-lines : goal.returns-in-Err-clause-lines
unfolding Told
returns-in-Err-clause-lines g c =
    let at = c.loop-refusal.invariant in
    written_refused at.written c.in-Err.refusal (ends_refused at.going c.in-Err.ensures)

pub slice_bounds-write_all-end : goal.slice_bounds-write_all-end
unfolding Told
slice_bounds-write_all-end g c = wrote_within c.in-Ok.ensures.written

pub slice_bounds-write_all-end-in-Ok : goal.slice_bounds-write_all-end-in-Ok
unfolding Told
slice_bounds-write_all-end-in-Ok g c = sym (length-take-le _ _ (wrote_within c.in-Ok.ensures.written))

pub overflow_add-listed : goal.overflow_add-listed
unfolding Told
overflow_add-listed g c = omega (arith, round_few c.loop-refusal.invariant.going c.in-Ok.ensures)

pub returns-then-stop-eq-AT_END-clause-ends : goal.returns-then-stop-eq-AT_END-clause-ends
unfolding Told
returns-then-stop-eq-AT_END-clause-ends g c = ends_all c.loop-refusal.invariant.going c.in-Ok.ensures c.if-stop-eq-AT_END.true

pub returns-then-stop-eq-AT_END-clause-lines : goal.returns-then-stop-eq-AT_END-clause-lines
unfolding Told
returns-then-stop-eq-AT_END-clause-lines g c =
    let at = c.loop-refusal.invariant in
    written_all at.written _ _ c.in-Ok.ensures at.going.refuses _ c.in_ok-write_all-in-Ok.ensures.bytes c.if-stop-eq-AT_END.true

pub loop-refusal-smaller : goal.loop-refusal-smaller
unfolding cps encode_all encode Told
loop-refusal-smaller g c =
    let going = c.loop-refusal.invariant.going in
    omega (arith, round_fewer going c.in-Ok.ensures, round_wrote going c.in-Ok.ensures (omega arith) c.if-stop-eq-AT_END.false)

pub loop-refusal-preserved : goal.loop-refusal-preserved
unfolding Told
loop-refusal-preserved g c =
    let at = c.loop-refusal.invariant in
    let lent = c.run_once.auto in
    record {
      going = going_on at.going c.in-Ok.ensures lent.records lent.payload lent.out;
      written = written_on at.written _ _ c.in-Ok.ensures at.going.refuses _ c.in_ok-write_all-in-Ok.ensures.bytes;
    }
