-- What comes before an item's start, then its start, then its end.
use Rattle.utf16_positions.proofs.RecordLaws.{to_2, to_4, all_done}
use Rattle.utf16_positions.proofs.recount_places.Goals as goal

pub recount_start-start-requires : goal.recount_start-start-requires
recount_start-start-requires c =
    to_2 c.requires c.recount_extra-extra.ensures

pub recount_position-requires : goal.recount_position-requires
recount_position-requires c =
    to_4 c.requires c.recount_extra-extra.ensures c.args.carried c.recount_start-start.ensures

pub returns : goal.returns
returns c =
    all_done c.requires c.recount_extra-extra.ensures c.args.carried c.recount_start-start.ensures c.recount_position.ensures
