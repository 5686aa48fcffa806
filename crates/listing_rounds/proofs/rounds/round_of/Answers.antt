-- A refusal is told; where there is none, the lines are those of the answer's items.
use Rattle.std.proofs.Common.{rules}
use Rattle.listing_rounds.specs.Rounds.{Told}
use Rattle.listing_rounds.proofs.rounds.round_of.Goals as goal

pub returns-then-answer-ne0 : goal.returns-then-answer-ne0
unfolding Told
returns-then-answer-ne0 c = search rules

pub returns : goal.returns
unfolding Told
returns c = search rules
