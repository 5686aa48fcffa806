-- The invariant: j is where the ASCII from k ends, and the run from k ends where the run from i does. The measure is what is left of the
-- text.
use Prim.Native.Nat.{ℕ, ◌-◌}
use mathlib.Core.Path.{◌≡◌}
use lib.ListN.{length}
use Rattle.definition.specs.Text.{star}
use Rattle.star.specs.Stops.{goes_on, ascii_goes_on}
use Rattle.star.proofs.CodeLaws.{SameEnd}
use Rattle.star.proofs.stops.run_end.Given as goal

abbrev pub invariant-loop-inside : goal.invariant-loop-inside
invariant-loop-inside l = (k : ℕ) × (l.j ≡ star (ascii_goes_on l.a l.b) l.text k) × SameEnd (goes_on l.a l.b) l.text l.i k

abbrev pub decreases-loop-inside : goal.decreases-loop-inside
decreases-loop-inside l = length l.text - l.j
