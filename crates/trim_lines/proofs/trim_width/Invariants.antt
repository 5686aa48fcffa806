-- `trim_width` is the definition's width. The invariant: what comes of the piece leaves of the margin the definition's width, and the
-- spaces counted are no more than the bytes passed.
use Rattle.trim_lines.specs.Trimming.{piece}
use Rattle.trim_lines.proofs.Widths.{Going}
use Rattle.trim_lines.proofs.trim_width.Given as goal

abbrev pub invariant-loop-b : goal.invariant-loop-b
invariant-loop-b l = Going l.column (piece l.text l.from l.to) l.b-items l.margin l.b-index
