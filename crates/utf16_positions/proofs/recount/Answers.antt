-- Without a count the record becomes the same.
use Rattle.utf16_positions.proofs.PlainLaws.{short, plainly}
use Rattle.utf16_positions.proofs.recount.Goals as goal

pub recount_plain-requires : goal.recount_plain-requires
recount_plain-requires c =
    short c.requires (c.is_plain.ensures c.if-is_plain.true).plain

pub returns-then-is_plain : goal.returns-then-is_plain
returns-then-is_plain c =
    let p = c.is_plain.ensures c.if-is_plain.true in
    plainly c.requires p.plain _ p.not_carried c.recount_plain.ensures
