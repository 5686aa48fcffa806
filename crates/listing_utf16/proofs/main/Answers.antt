-- The start isn't refused.
use Rattle.std.proofs.Common.{ap}
use Rattle.std.specs.Prelude.{is_ok}
use Rattle.lexer.proofs.FirstStarts.{first_utf16_start}
use Rattle.listing_utf16.proofs.main.Goals as goal

pub unwrap-state-requires : goal.unwrap-state-requires
unwrap-state-requires c = ap is_ok (first_utf16_start _ c.start.ensures)

pub list_input-requires : goal.list_input-requires
list_input-requires c = cc (first_utf16_start _ c.start.ensures, c.unwrap-state.ensures)
