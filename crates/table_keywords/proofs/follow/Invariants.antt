-- The invariant is `Seeking`: the words passed over are not the lexeme, and the one at k has its key. The measure is what is left of the
-- table.
use Prim.Native.Nat.{◌-◌}
use Rattle.table_keywords.proofs.Chains.{Seeking}
use Rattle.table_keywords.proofs.follow.Given as goal

abbrev pub invariant-loop-k : goal.invariant-loop-k
invariant-loop-k l = Seeking l.id l.start l.stop l.k

abbrev pub decreases-loop-k : goal.decreases-loop-k
decreases-loop-k l = l.stop - l.k
