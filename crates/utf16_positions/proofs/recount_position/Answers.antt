-- The place at the position's column, on its line, has the definition's column in units.
use Rattle.utf16_positions.proofs.RecordLaws.{line_begins, position_counted}
use Rattle.utf16_positions.proofs.recount_position.Goals as goal

pub tally_at-tally-requires : goal.tally_at-tally-requires
tally_at-tally-requires c =
    let h = c.requires in
    (h.0.tallied, line_begins h.0 h.1 _ c.line_at-line.ensures)

pub returns : goal.returns
returns c =
    let h = c.requires in
    position_counted h.0 h.1 c.line_at-line.ensures c.tally_at-tally.ensures
