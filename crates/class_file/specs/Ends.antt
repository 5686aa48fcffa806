-- The first and the last code point of a range, by its place in a list.
use Rattle.std.specs.Prelude.{ℕ, List, get_or}
use Rattle.definition.specs.ClassFile.{Range}

-- the first and the last code point of range i of a list
abbrev pub first_at : List Range → ℕ → ℕ
first_at rs i = (get_or rs i (0, 0)).0

abbrev pub last_at : List Range → ℕ → ℕ
last_at rs i = (get_or rs i (0, 0)).1
