-- Each return is an arm of the definition.
use Rattle.utf16_turn.proofs.SecondColumns.{line_same, line_later}
use Rattle.utf16_turn.proofs.line_in.Goals as goal

pub returns-then-a-first : goal.returns-then-a-first
returns-then-a-first c = line_same c.args.g c.args.a c.if-a-first.true

pub returns : goal.returns
returns c = line_later c.args.g c.args.a c.if-a-first.false
