-- The invariant: the run from j ends where the run from i does.
use Rattle.star.proofs.CodeLaws.{SameEnd}
use Rattle.star.proofs.star_ascii.Given as goal

abbrev pub invariant-loop-j : goal.invariant-loop-j
invariant-loop-j g l = SameEnd (g.T.AsciiTest.test l.test) l.text l.i l.j
