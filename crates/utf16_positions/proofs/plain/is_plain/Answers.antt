-- Only an item that begins at a place has a start that may be plain.
use mathlib.Core.Bool.{false≢true}
use Rattle.utf16_positions.proofs.plain.is_plain.Goals as goal

pub returns-in-None : goal.returns-in-None
returns-in-None c = λ e. record { not_carried = c.in-None.is; plain = c.plain_here.ensures e }

pub returns-in-Some : goal.returns-in-Some
returns-in-Some c = λ e. absurd (false≢true e)
