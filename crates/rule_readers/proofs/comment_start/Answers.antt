-- The comment begins where the choice does, and its start is asked for once.
use Rattle.rule_readers.proofs.ReadOn.{in_comment, comment_reads}
use Rattle.rule_readers.proofs.comment_start.Goals as goal

pub comment-requires : goal.comment-requires
comment-requires c = in_comment c.requires c.pos_of-here.ensures c.advance.ensures c.open_comment.ensures

pub returns : goal.returns
returns c = comment_reads c.requires c.pos_of-here.ensures c.advance.ensures c.open_comment.ensures c.comment.ensures
