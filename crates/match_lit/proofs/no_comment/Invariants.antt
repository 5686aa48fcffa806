-- `no_comment` is the definition's `no_comment`. The invariant: the search from `j` on gives what the search from i on gives.
use mathlib.Core.Path.{◌≡◌}
use Rattle.definition.specs.Matchers.{no_comment}
use Rattle.match_lit.proofs.no_comment.Given as goal

abbrev pub invariant-loop-j : goal.invariant-loop-j
invariant-loop-j l = no_comment l.text l.j l.e ≡ no_comment l.text l.i l.e
