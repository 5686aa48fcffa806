-- Neither start is refused.
use Rattle.std.proofs.Common.{ap}
use Rattle.std.specs.Prelude.{is_ok}
use Rattle.lexer.proofs.FirstStarts.{first_start, first_utf16_start}
use Rattle.bench.proofs.start.Goals as goal

pub unwrap-requires : goal.unwrap-requires
unwrap-requires c = ap is_ok (first_utf16_start _ c.start.ensures)

pub unwrap-requires-2 : goal.unwrap-requires-2
unwrap-requires-2 c = ap is_ok (first_start _ c.start-2.ensures)
