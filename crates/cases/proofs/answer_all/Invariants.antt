-- The parts of the frame before stand in the buffer.
use Rattle.cases.specs.Parts.{Within}
use Rattle.cases.proofs.answer_all.Given as goal

abbrev pub invariant-loop : goal.invariant-loop
invariant-loop g l = Within l.parts l.bytes
