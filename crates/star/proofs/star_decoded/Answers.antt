use native.Mathlib.Omega.{arith}
use Rattle.star.proofs.CodeLaws.{decoded_past, decoded_turn, decoded_end}
use Rattle.star.proofs.star_decoded.Goals as goal

pub loop-k-smaller : goal.loop-k-smaller
loop-k-smaller g c = omega (arith, decoded_past _ _ _ c.one_char.ensures c.in-Some.is)

pub loop-k-preserved : goal.loop-k-preserved
loop-k-preserved g c = decoded_turn _ _ _ _ c.one_char.ensures c.in-Some.is c.loop-k.invariant

pub returns : goal.returns
returns g c = decoded_end _ _ _ _ c.one_char.ensures c.in_default.is c.loop-k.invariant
