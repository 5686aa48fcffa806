-- Each arm writes what the definition's move adds.
use mathlib.Core.Path.{refl}
use Rattle.payload_write.proofs.PutLaws.{part_asks, char_asks, nothing_put}
use Rattle.payload_write.proofs.literals.put.Goals as goal

pub copy_part-requires : goal.copy_part-requires
copy_part-requires c = part_asks (rw c.in-Copy.is at c.requires.goes) (rw c.in-Copy.is at c.requires.room)

pub copy_part-requires-in-Line : goal.copy_part-requires-in-Line
copy_part-requires-in-Line c = part_asks (rw c.in-Line.is at c.requires.goes) (rw c.in-Line.is at c.requires.room)

pub encode_into-requires : goal.encode_into-requires
encode_into-requires c = char_asks (rw c.in-Char.is at c.requires.goes).1 (rw c.in-Char.is at c.requires.room)

pub returns-in-Copy : goal.returns-in-Copy
returns-in-Copy c = rw c.in-Copy.is c.copy_part.ensures

pub returns-in-Skip : goal.returns-in-Skip
returns-in-Skip c = nothing_put _ _ _ _ _ c.in-Skip.is refl

pub returns-in-Line : goal.returns-in-Line
returns-in-Line c = rw c.in-Line.is c.copy_part-in-Line.ensures

pub returns-in-Char : goal.returns-in-Char
returns-in-Char c = rw c.in-Char.is c.encode_into.ensures

pub returns-in-Surrogate : goal.returns-in-Surrogate
returns-in-Surrogate c = nothing_put _ _ _ _ _ c.in-Surrogate.is refl

pub returns-in-Close : goal.returns-in-Close
returns-in-Close c = nothing_put _ _ _ _ _ c.in-Close.is refl

pub returns-in-Open : goal.returns-in-Open
returns-in-Open c = nothing_put _ _ _ _ _ c.in-Open.is refl
