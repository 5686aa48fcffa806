-- The comment's text begins with the slashes.
use Rattle.rule_readers.proofs.ReadOn.{after_slashes, slashes_read}
use Rattle.rule_readers.proofs.slashes.Goals as goal

pub line_comment-requires : goal.line_comment-requires
line_comment-requires c = after_slashes c.requires c.moved.ensures

pub returns : goal.returns
returns c = slashes_read c.requires c.moved.ensures c.line_comment.ensures
