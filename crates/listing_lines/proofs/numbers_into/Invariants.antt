-- The invariant is `Numbered`: the first numbers are written.
use Rattle.listing_lines.proofs.LineLaws.{Numbered}
use Rattle.listing_lines.proofs.numbers_into.Given as goal

abbrev pub invariant-loop-i : goal.invariant-loop-i
invariant-loop-i l = Numbered l.words l.initial.out l.at l.i-index l.out
