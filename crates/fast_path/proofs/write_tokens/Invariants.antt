-- The invariant is `WritingTokens`: what is still to come is what was to come before the first token. The measure is what is left to read.
use mathlib.Core.Path.{◌≡◌}
use lib.ListN.{length}
use Rattle.laws_run.specs.Left.{left}
use Rattle.fast_path.proofs.TokensWrittenLaws.{WritingTokens}
use Rattle.fast_path.proofs.write_tokens.Given as goal

abbrev pub invariant-loop-here : goal.invariant-loop-here
invariant-loop-here l =
    WritingTokens l.text l.classes l.initial.at l.initial.count l.initial.used l.initial.records l.initial.bytes l.at l.count l.used l.plain l.records l.bytes × (length l.records ≡ length l.initial.records) × (length l.bytes ≡ length l.initial.bytes)

abbrev pub decreases-loop-here : goal.decreases-loop-here
decreases-loop-here l = left l.text l.at.st
