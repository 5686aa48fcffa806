-- The invariant is `Going`: what is still to come gives what the whole gives, also after the tokens. The measure is what is left to
-- read.
use mathlib.Core.Path.{◌≡◌}
use lib.ListN.{length}
use Rattle.laws_run.specs.Left.{left}
use Rattle.run_turn.specs.Running.{Going}
use Rattle.lexer.proofs.run_items.Given as goal

abbrev pub invariant-loop-stop : goal.invariant-loop-stop
invariant-loop-stop l =
    Going l.text l.name l.classes l.initial.at.st l.initial.records l.initial.payload l.at l.count l.used l.records l.payload × (length l.records ≡ length l.initial.records) × (length l.payload ≡ length l.initial.payload)

abbrev pub decreases-loop-stop : goal.decreases-loop-stop
decreases-loop-stop l = left l.text l.at.st
