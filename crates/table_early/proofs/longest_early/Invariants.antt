-- `longest_early` tries the definition's early literals in turn. The outer invariant: trying the rows that are left with the best so far
-- gives what the definition gives. The inner: what is left of row k's word gives at `end` what the whole word gives at i.
use Prim.Native.Nat.{◌≤◌}
use mathlib.Core.Path.{◌≡◌}
use lib.Seq.{slice}
use Rattle.definition.specs.Tables.{early_literals, words_of}
use Rattle.definition.specs.Matchers.{match_lit}
use Rattle.definition.specs.Select.{none_at, try_words}
use Rattle.table_words.specs.Rows.{try_rows}
use Rattle.table_words.proofs.TableLaws.{Comparing}
use Rattle.table_early.proofs.Computed.{early}
use Rattle.table_early.proofs.longest_early.Given as goal

abbrev pub invariant-loop-j : goal.invariant-loop-j
invariant-loop-j l = Comparing early l.text l.i l.k l.n l.end l.j

abbrev pub invariant-words : goal.invariant-words
invariant-words l = (l.i ≤ l.best.end) × (try_rows l.i 1 (λ w. match_lit l.text w l.i) (slice l.k 15 early) l.best ≡ try_words l.i 1 (λ w. match_lit l.text w l.i) 0 (words_of early_literals) (none_at l.i))
