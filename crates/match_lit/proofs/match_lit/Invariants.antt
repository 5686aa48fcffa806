-- `match_lit` is the definition's `match_lit`. The invariant: the rest of the word from `at` on gives what the whole word from i on gives.
use mathlib.Core.Path.{◌≡◌}
use lib.ListN.{drop}
use Rattle.definition.specs.Matchers.{match_lit}
use Rattle.match_lit.proofs.match_lit.Given as goal

abbrev pub invariant-loop-b : goal.invariant-loop-b
invariant-loop-b l = match_lit l.text (drop l.b-index l.word) l.at ≡ match_lit l.text l.word l.i
