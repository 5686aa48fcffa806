-- Where a reader stands after it reads on, with what it knows there.
use Rattle.std.specs.Prelude.{ℕ}
use Rattle.definition.specs.State.{advance, new_line}
use Rattle.reader.specs.declared.Cursor.{Cursor}

-- up to byte e, on the same line
abbrev pub moved : Cursor → ℕ → Cursor
moved at e = record { st = advance at.st e; known = at.known }

-- up to byte e, where a line begins
abbrev pub next_line : Cursor → ℕ → Cursor
next_line at e = record { st = new_line (advance at.st e); known = record { off = e; col = 0 } }
