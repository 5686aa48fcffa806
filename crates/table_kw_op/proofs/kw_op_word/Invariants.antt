-- `kw_op_word` is the first of the definition's words that fits. The outer invariant: the rows before k and the first that fits of the
-- others are the first that fits of all. The inner: what is left of row k's word gives at `end` what the whole word gives at i.
use Prim.Native.Nat.{◌+◌}
use mathlib.Core.Path.{◌≡◌}
use lib.ListN.{drop}
use Rattle.table_words.specs.Rows.{first_fit}
use Rattle.table_words.proofs.TableLaws.{Comparing}
use Rattle.table_kw_op.proofs.Computed.{kw_ops}
use Rattle.table_kw_op.proofs.kw_op_word.Given as goal

abbrev pub invariant-loop-j : goal.invariant-loop-j
invariant-loop-j l = Comparing kw_ops l.text l.i l.k l.n l.end l.j

abbrev pub invariant-words : goal.invariant-words
invariant-words l = l.k + first_fit l.text l.i (drop l.k kw_ops) ≡ first_fit l.text l.i kw_ops
