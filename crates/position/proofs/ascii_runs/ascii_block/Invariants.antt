-- The invariant is `Joined`: where the bits together are below 128, all the bytes passed are ASCII.
use Rattle.position.proofs.Ascii.{Joined}
use Rattle.position.proofs.ascii_runs.ascii_block.Given as goal

abbrev pub invariant-loop-b : goal.invariant-loop-b
invariant-loop-b l = Joined l.text l.i l.bits l.b-index
