-- Each arm reads what stands ahead.
use Rattle.step.proofs.read.Goals as goal

pub read_choice-requires : goal.read_choice-requires
read_choice-requires c =
    let p = c.requires in
    (rw c.in-ByReader.is at p.0, p.1)

pub finish-requires : goal.finish-requires
finish-requires c = rw c.in-ByAction.is at c.requires.0

pub comment-requires : goal.comment-requires
comment-requires c =
    let h = rw c.in-InComment.is at c.requires.0 in
    record { standing = h.0; mode = h.1 }

pub returns-in-ByReader : goal.returns-in-ByReader
returns-in-ByReader c = rw c.in-ByReader.is c.read_choice.ensures

pub returns-in-ByAction : goal.returns-in-ByAction
returns-in-ByAction c = rw c.in-ByAction.is (c.finish.ensures _)

pub returns-in-InComment : goal.returns-in-InComment
returns-in-InComment c = rw c.in-InComment.is (c.comment.ensures _ _)
