-- What the functions that write lines promise and ask for, where that is more than an equation.
use Rattle.std.specs.Prelude.{ℕ, ◌*◌, ◌≤◌, List, length}
use Rattle.definition.specs.Basics.{Bytes}
use Rattle.definition.specs.Item.{record_size}

-- the most bytes of a line: a letter, a blank, a name of 26 at most, seven times a blank and 10 digits at most, a line feed
abbrev pub line_most : ℕ
line_most = 106

-- there are as many records, and room for their lines
pub record Room (rs : List ℕ) (count : ℕ) (out : Bytes) : Type 0 where
  pub records : record_size * count ≤ length rs
  pub lines : line_most * count ≤ length out
