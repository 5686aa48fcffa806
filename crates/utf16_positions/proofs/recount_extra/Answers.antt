-- Two parts of the record are lent one after the other.
use Rattle.utf16_positions.proofs.RecordLaws.{no_extra, to_13, to_11, extra_done}
use Rattle.utf16_positions.proofs.recount_extra.Goals as goal

pub returns-then-out-le1 : goal.returns-then-out-le1
returns-then-out-le1 c = no_extra c.requires c.if-out-le1.true

pub recount_position-first-requires : goal.recount_position-first-requires
recount_position-first-requires c = to_13 c.requires c.if-out-le1.false

pub recount_position-requires : goal.recount_position-requires
recount_position-requires c =
    to_11 c.requires c.if-out-le1.false c.recount_position-first.ensures

pub returns : goal.returns
returns c =
    extra_done c.requires c.if-out-le1.false c.recount_position-first.ensures c.recount_position.ensures
