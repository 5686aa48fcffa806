-- `write_trimmed` writes the trimmed piece. The invariant is `Writing`: what stays of the bytes passed is written, and what stays of the rest
-- is the rest of the trimmed piece.
use Rattle.reader.specs.Described.{trimmed}
use Rattle.trim_lines.specs.Trimming.{piece}
use Rattle.trim_lines.proofs.Pieces.{coming}
use Rattle.trim_lines.proofs.Writing.{Writing}
use Rattle.trim_lines.proofs.write_trimmed.Given as goal

abbrev pub invariant-loop-b : goal.invariant-loop-b
invariant-loop-b l =
    Writing (trimmed l.width (piece l.text l.from l.to)) l.initial.out l.width l.left (coming l.b-items l.b-index) l.length l.out
