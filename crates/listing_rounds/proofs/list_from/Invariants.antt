-- The invariant is `Going`, and that what was written so far is what is listed; the measure is what is left to read, which falls with each
-- item, of which each round but the last writes one.
use Rattle.definition.specs.Tables.{cps}
use Rattle.laws_run.specs.Left.{left}
use Rattle.either_run.specs.Either.{first_of}
use Rattle.listing_rounds.proofs.RunsOn.{Going}
use Rattle.listing_rounds.proofs.Written.{Written}
use Rattle.listing_rounds.proofs.list_from.Given as goal

abbrev pub invariant-loop-refusal : goal.invariant-loop-refusal
invariant-loop-refusal g l = record {
  going : Going l.text (cps "stdin") l.classes l.initial.from l.initial.records l.initial.payload l.initial.out l.records l.payload l.out l.from l.listed;
  written : Written l.text (cps "stdin") l.classes l.initial.from l.from (g.W.Write.contents l.initial.to) (g.W.Write.contents l.to);
}

abbrev pub decreases-loop-refusal : goal.decreases-loop-refusal
decreases-loop-refusal g l = left l.text (first_of l.from)
