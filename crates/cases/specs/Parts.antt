-- The parts of a frame stand one after the other in the buffer, and it has no fewer bytes than they.
use Rattle.std.specs.Prelude.{ℕ, ◌≤◌, List, length}
use Rattle.cases.specs.declared.Parts.{Parts}

abbrev pub Within : Parts → List ℕ → Type 0
Within parts bytes = (parts.name ≤ parts.text) × (parts.text ≤ parts.classes) × (parts.classes ≤ length bytes)
