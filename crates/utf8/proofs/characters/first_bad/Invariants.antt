-- `first_bad` is the definition's `first_bad`. The invariant: the run of characters from `i` ends where the run from 0 does. A byte
-- below 80 is a character by itself, so the two ways round the loop both pass one character. The measure is what is left of the text.
use Prim.Native.Nat.{ℕ, ◌-◌}
use mathlib.Core.Path.{◌≡◌}
use mathlib.Core.Bool.{Bool, true}
use lib.ListN.{length}
use Rattle.definition.specs.Text.{star, first_bad}
use Rattle.utf8.proofs.characters.first_bad.Given as goal

-- Any character passes.
abbrev pub any : ℕ → Bool
any c = true

abbrev pub invariant-loop-i : goal.invariant-loop-i
invariant-loop-i l = star any l.text l.i ≡ first_bad l.text

abbrev pub decreases-loop-i : goal.decreases-loop-i
decreases-loop-i l = length l.text - l.i
