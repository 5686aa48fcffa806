-- The four numbers are stored one after another.
use Rattle.utf16_positions.proofs.plain.recount_plain.Goals as goal

pub returns : goal.returns
returns c =
    let end = c.plain_place-end.ensures in
    let start = c.plain_place-start.ensures in
    record { tally = rw end; words = rw (end, start) }
