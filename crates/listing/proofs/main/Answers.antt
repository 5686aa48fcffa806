-- The start isn't refused.
use Rattle.std.proofs.Common.{ap}
use Rattle.std.specs.Prelude.{is_ok}
use Rattle.lexer.proofs.FirstStarts.{first_start}
use Rattle.listing.proofs.main.Goals as goal

pub unwrap-state-requires : goal.unwrap-state-requires
unwrap-state-requires c = ap is_ok (first_start _ c.start.ensures)

pub list_input-requires : goal.list_input-requires
list_input-requires c = cc (first_start _ c.start.ensures, c.unwrap-state.ensures)
