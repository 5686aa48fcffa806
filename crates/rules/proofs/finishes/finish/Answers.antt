-- What is built of an action is what it stands for.
use Rattle.rules.proofs.Finishing.{token_finished, error_finished, line_finished}
use Rattle.rules.proofs.finishes.finish.Goals as goal

pub finish_from-requires : goal.finish_from-requires
finish_from-requires c = (rw c.in-Token.is at c.requires.1).0

pub error_over-requires : goal.error_over-requires
error_over-requires c = (c.requires.0, (rw c.in-Error.is at c.requires.1).0)

pub returns-in-Token : goal.returns-in-Token
returns-in-Token c = token_finished c.requires.0 _ c.in-Token.is c.requires.1 c.finish_from.ensures

pub returns-in-Error : goal.returns-in-Error
returns-in-Error c = error_finished c.requires.0 _ c.in-Error.is c.requires.1 c.error_over.ensures

pub returns-in-LineComment : goal.returns-in-LineComment
returns-in-LineComment c = line_finished c.requires.0 _ c.in-LineComment.is c.line_comment.ensures
