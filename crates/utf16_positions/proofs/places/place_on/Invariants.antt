-- The invariant is `Going`: from where the count is, it gives the place that it gives from where it began; it is not past the column.
use Prim.Native.Nat.{◌≤◌, max}
use Rattle.utf16_positions.proofs.PlaceLaws.{Going}
use Rattle.utf16_positions.proofs.places.place_on.Given as goal

abbrev pub invariant-loop : goal.invariant-loop
invariant-loop l = Going l.text l.from l.col (record { off = l.off; col = l.counter; units = l.units }) × (l.counter ≤ max l.from.col l.col)
