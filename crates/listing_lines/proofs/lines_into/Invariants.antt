-- The invariant is `Lined`: as many records as were taken have their lines, and the others are left.
use lib.ListN.{length}
use Rattle.listing_lines.proofs.LineLaws.{Lined}
use Rattle.listing_lines.proofs.lines_into.Given as goal

abbrev pub invariant-loop-record : goal.invariant-loop-record
invariant-loop-record l =
    let it = l.record-iterator in
    Lined l.records l.initial.out l.count l.at (length l.yielded) it.size it.rest.now l.out
