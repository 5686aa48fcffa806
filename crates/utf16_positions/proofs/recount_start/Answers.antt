-- Where the item begins at a place it is counted; a start that is carried is written as it is given.
use Rattle.utf16_positions.proofs.RecordLaws.{carried}
use Rattle.utf16_positions.proofs.recount_start.Goals as goal

pub returns-in-None : goal.returns-in-None
returns-in-None c = rw c.in-None.is c.recount_position.ensures

pub returns-in-Some : goal.returns-in-Some
returns-in-Some c =
    let h = c.requires in
    rw c.in-Some.is (carried h.0 h.1 _)
