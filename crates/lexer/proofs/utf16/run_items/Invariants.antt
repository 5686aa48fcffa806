-- The invariant is `Utf16Going`: what is still to come gives what the whole gives. The measure is what is left to read.
use mathlib.Core.Path.{◌≡◌}
use lib.ListN.{length}
use Rattle.laws_run.specs.Left.{left}
use Rattle.lexer.proofs.Utf16ItemLaws.{Utf16Going}
use Rattle.lexer.proofs.utf16.run_items.Given as goal

abbrev pub invariant-loop-stop : goal.invariant-loop-stop
invariant-loop-stop l =
    Utf16Going l.text l.name l.classes l.initial.at.state l.initial.records l.initial.payload l.at l.count l.used l.records l.payload × (length l.records ≡ length l.initial.records) × (length l.payload ≡ length l.initial.payload)

abbrev pub decreases-loop-stop : goal.decreases-loop-stop
decreases-loop-stop l = left l.text l.at.state.first
