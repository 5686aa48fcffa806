-- `laid_out` meets its contract. The invariant, `Placed`: the offsets of the classes before k are right, and `place` is
-- where class k begins.
use Rattle.class_file.proofs.Accepted.{Placed}
use Rattle.class_file.proofs.check.laid_out.Given as goal

abbrev pub invariant-loop-k : goal.invariant-loop-k
invariant-loop-k l = Placed l.file l.k l.place
