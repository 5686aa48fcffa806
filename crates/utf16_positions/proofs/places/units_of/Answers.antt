-- A character above U+FFFF is two units, any other is one.
use mathlib.Core.Path.{sym}
use Rattle.position.proofs.Skips.{one_unit, two_units}
use Rattle.utf16_positions.proofs.places.units_of.Goals as goal

pub returns-then-c-gt-LAST_OF_ONE_UNIT : goal.returns-then-c-gt-LAST_OF_ONE_UNIT
returns-then-c-gt-LAST_OF_ONE_UNIT c = sym (two_units _ c.if-c-gt-LAST_OF_ONE_UNIT.true)

pub returns : goal.returns
returns c = sym (one_unit _ c.if-c-gt-LAST_OF_ONE_UNIT.false)
