-- The blob's positions are asked for one after the other.
use Rattle.laws_run.proofs.Moving.{stands_within}
use Rattle.reader.proofs.Standing.{asks, asks_here, stays}
use Rattle.read_blob.proofs.ClosedLaws.{closed_reads}
use native.Mathlib.Omega.{arith}
use Rattle.read_blob.proofs.closed.Goals as goal

pub pos_of-start-requires : goal.pos_of-start-requires
pos_of-start-requires c = asks_here c.requires.0.standing

pub overflow_cast-e : goal.overflow_cast-e
overflow_cast-e c =
    let n = c.requires.1 in
    omega (arith, stands_within n, n.short)

pub pos_of-end-requires : goal.pos_of-end-requires
pos_of-end-requires c =
    let p = c.requires in
    asks (stays _ p.0.standing c.pos_of-start.ensures) _ p.1.sound.order (stands_within p.1)

pub overflow_cast-e-2 : goal.overflow_cast-e-2
overflow_cast-e-2 c =
    let n = c.requires.1 in
    omega (arith, stands_within n, n.short)

pub overflow_cast-item : goal.overflow_cast-item
overflow_cast-item c =
    let h = c.requires.0 in
    omega (arith, c.saturating_sub-2.ensures, h.named, h.standing.stands.short)

pub returns : goal.returns
returns c =
    closed_reads _ _ c.args.lang _ _ _ c.requires.0 c.requires.1 _ _ _ _ _ _ c.pos_of-start.ensures c.pos_of-end.ensures
    c.kind_of.ensures c.saturating_sub-2.ensures c.saturating_sub.ensures c.advance-next.ensures
