-- The count begins at a place from which it gives the line's place at the column.
use mathlib.Core.Path.{ap, ◌∙◌}
use Rattle.utf16_positions.specs.declared.Place.{Place}
use Rattle.utf16_positions.proofs.PlaceLaws.{from_counts, from_gives}
use Rattle.utf16_positions.proofs.places.tally_at.Goals as goal

pub place_on-place-requires : goal.place_on-place-requires
place_on-place-requires c = let h = c.requires in from_counts h.0 h.1 c.count_from-from.ensures

pub returns : goal.returns
returns c =
    ap (λ (p : Place). record { start = c.args.line; place = p })
    (c.place_on-place.ensures ∙ from_gives c.requires.0 c.count_from-from.ensures)
