-- `trimmed_length` is the length of the trimmed piece. The invariant: the bytes counted and those that stay of the rest are all.
use Rattle.trim_lines.proofs.Counting.{Counting}
use Rattle.trim_lines.proofs.trimmed_length.Given as goal

abbrev pub invariant-loop-b : goal.invariant-loop-b
invariant-loop-b l = Counting l.text l.from l.to l.width l.b-items l.length l.left l.b-index
