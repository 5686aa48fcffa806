-- The token's positions are asked for one after the other.
use Rattle.reader.proofs.ActionBuilding.{end_small, span_asked, span_reads}
use native.Mathlib.Omega.{arith}
use Rattle.rules.proofs.finishes.finish_from.Goals as goal

pub overflow_cast-e : goal.overflow_cast-e
overflow_cast-e c = omega (arith, end_small c.requires)

pub pos_of-end-requires : goal.pos_of-end-requires
pos_of-end-requires c = span_asked c.requires _ c.pos_of-start.ensures

pub overflow_cast-e-2 : goal.overflow_cast-e-2
overflow_cast-e-2 c = omega (arith, end_small c.requires)

pub returns : goal.returns
returns c =
    λ f bytes q. span_reads c.requires _ _ _ c.pos_of-start.ensures c.pos_of-end.ensures c.advance-next.ensures (c.token.ensures _ f bytes q)
