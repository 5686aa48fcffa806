-- A byte below 80 is a character of one byte and one unit; for the others the decoder says what stands there.
use Rattle.utf16_positions.proofs.PlaceLaws.{sized_ascii, sized, unsized}
use Rattle.utf16_positions.proofs.places.size_at.Goals as goal

pub returns-then-text-i-lt128 : goal.returns-then-text-i-lt128
returns-then-text-i-lt128 c = sized_ascii _ _ c.if-i-text.true c.if-text-i-lt128.true

pub returns-in-Char : goal.returns-in-Char
returns-in-Char c = sized _ _ c.sequence_at.ensures c.in-Char.is c.units_of.ensures

pub returns-in-Bad : goal.returns-in-Bad
returns-in-Bad c = unsized _ _ c.sequence_at.ensures c.in-Bad.is tt

pub returns-in-End : goal.returns-in-End
returns-in-End c = unsized _ _ c.sequence_at.ensures c.in-End.is tt
