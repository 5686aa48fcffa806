-- Each return is an arm of the definition.
use Rattle.utf16_turn.proofs.SecondColumns.{begun_carried, begun_here}
use Rattle.utf16_turn.proofs.begun_in.Goals as goal

pub returns-then-first-eq1 : goal.returns-then-first-eq1
returns-then-first-eq1 c = begun_carried c.args.g c.if-first-eq1.true

pub returns : goal.returns
returns c = begun_here c.args.g c.if-first-eq1.false
