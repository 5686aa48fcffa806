-- The part stands after the first byte, which is written last.
use Rattle.payload_write.proofs.Parts.{in_front}
use native.Mathlib.Omega.{arith}
use Rattle.payload_write.proofs.write_greater.Goals as goal

pub returns : goal.returns
returns c = in_front _ _ _ _ (omega (arith, c.requires.1)) c.copy_part.ensures.bytes
