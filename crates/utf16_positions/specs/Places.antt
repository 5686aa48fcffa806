-- Places of a line with both their columns, and the positions of a record counted again. s is the text.
use Rattle.std.specs.Prelude.{ℕ, ◌+◌, ◌-◌, ◌≤◌, ◌<◌, ◌≡◌, List, eqb, length, get_or, if◌then◌else◌, Option, None, Some}
use Rattle.definition.specs.Basics.{Bytes}
use Rattle.definition.specs.Position.{Weight, count_chars}
use Rattle.definition.specs.Item.{record_size, words}
use Rattle.definition.specs.Utf16.{utf16, skip_chars, column_in, second_item}
use Rattle.definition.specs.declared.Pos.{Pos}
use Rattle.definition.specs.declared.State.{State}
use Rattle.definition.specs.declared.Item.{Item}
use Rattle.definition.specs.declared.Utf16State.{Utf16State}
use Rattle.utf16_positions.specs.declared.LineStart.{LineStart}
use Rattle.utf16_positions.specs.declared.Place.{Place}
use Rattle.utf16_positions.specs.declared.Tally.{Tally}

-- ---- places

-- the place of the same line at a column in characters, from a place before it: the column by a weight goes on by the weights of the
-- characters between
abbrev pub place_at : Weight → Bytes → Place → ℕ → Place
place_at w s from col =
    let i = skip_chars s from.off (col - from.col) in
    record { off = i; col = from.col + (col - from.col); units = from.units + count_chars w s from.off (i - from.off) }

-- a line's first place
abbrev pub first_place : LineStart → Place
first_place l = record { off = l.bol; col = l.column; units = l.units }

-- the line that a state is on, whose start has the column `units` in units
abbrev pub line_of : State → ℕ → LineStart
line_of a units = record { line = a.line; bol = a.bol; column = a.column; units = units }

-- the line of a state b that a step from the second run's state g comes to
abbrev pub line_in : Utf16State → State → LineStart
line_in g b = line_of b (column_in g b)

-- a line of a text that isn't too long, with a column that a saved state may have
pub record Begins (s : Bytes) (l : LineStart) : Type 0 where
  pub short : length s ≤ 1048576
  pub within : l.bol ≤ length s
  pub margin : l.units ≤ 1000000

-- the place that is known is one of the line
pub record Tallied (s : Bytes) (t : Tally) : Type 0 where
  pub begins : Begins s t.start
  pub after : t.start.column ≤ t.place.col
  pub known : t.place ≡ place_at utf16 s (first_place t.start) t.place.col

-- ---- positions

-- the line of a position whose line is n: `here`, or else `next`
abbrev pub line_at : LineStart → LineStart → ℕ → LineStart
line_at here next n = if eqb n here.line then here else next

-- the second position of p, on one of the two lines (the definition's `second`)
unfoldable pub second_by : Bytes → LineStart → LineStart → Pos → Pos
second_by s here next p = record { line = p.line - 1; col = (place_at utf16 s (first_place (line_at here next p.line)) p.col).units }

-- the same for where an item begins: for a later piece of a comment in the column `carried`, the second one of the comment's start
abbrev pub begun_at : Bytes → LineStart → LineStart → Option ℕ → Pos → Pos
begun_at s here next None p = second_by s here next p
begun_at s here next (Some units) p = record { line = p.line - 1; col = units }

-- ---- records

-- every line of a record's positions is 1 or more; words 11 to 14 are positions where word 9 is 2 or 3
pub record LinesFromOne (r : List ℕ) : Type 0 where
  pub start : 1 ≤ get_or r 2 0
  pub end : 1 ≤ get_or r 4 0
  pub extra : 1 < get_or r 9 0 → (1 ≤ get_or r 11 0) × (1 ≤ get_or r 13 0)

-- what counting a record's positions again asks for
pub record Recounts (s : Bytes) (here next : LineStart) (t : Tally) (r : List ℕ) : Type 0 where
  pub here_begins : Begins s here
  pub next_begins : Begins s next
  pub tallied : Tallied s t
  pub size : length r ≡ record_size
  pub lines : LinesFromOne r

-- what it gives: the record of an item is that of the item with its second positions, and the place that is known then is one of its line
pub record Recounted (s : Bytes) (here next : LineStart) (carried : Option ℕ) (r : List ℕ) (t : Tally) (r' : List ℕ) : Type 0 where
  pub tallied : Tallied s t
  pub is : (x : Item) (used : ℕ) → r ≡ words x used → r' ≡ words (second_item (begun_at s here next carried x.sp) (second_by s here next) x) used
