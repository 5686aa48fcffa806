-- There is room for the lines of the run's items, and what is told of its answer and its records is told of its outcome.
use Rattle.definition.specs.Utf8.{encode, encode_all}
use Rattle.definition.specs.Tables.{cps}
use Rattle.listing_rounds.proofs.RunsOn.{said_is, round_is, round_room}
use Rattle.listing_rounds.proofs.run_once.Goals as goal

pub round_of-requires : goal.round_of-requires
round_of-requires c = λ z. round_room _ _ _ _ _ _ (said_is c.answer_of.ensures c.run-ran.ensures) z c.requires c.run-ran.auto.records

pub returns : goal.returns
unfolding cps encode_all encode
returns c = round_is _ _ _ _ (said_is c.answer_of.ensures c.run-ran.ensures) c.round_of.ensures
