-- The position is asked for once, for the token and for the error's range.
use Rattle.reader.proofs.Standing.{asks_here, stays}
use Rattle.reader.proofs.DescribedBuilding.{error_here_reads}
use native.Mathlib.Omega.{arith}
use Rattle.reader.proofs.tokens.error_here.Goals as goal

pub pos_of-here-requires : goal.pos_of-here-requires
pos_of-here-requires c = asks_here c.requires

pub lex_error-requires : goal.lex_error-requires
lex_error-requires c = (stays _ c.requires c.pos_of-here.ensures, record { listed = tt; small = omega arith })

pub returns : goal.returns
returns c = error_here_reads _ _ c.pos_of-here.ensures c.lex_error.ensures
