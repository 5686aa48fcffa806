-- The position after the quote is asked for, and the contents are described.
use Rattle.definition.specs.Kinds.{kind, kind_names, number_from}
use Rattle.laws_run.proofs.Moving.{stands_within}
use Rattle.reader.proofs.Standing.{asks}
use Rattle.read_string.proofs.ReadLaws.{close_reads}
use native.Mathlib.Omega.{arith}
use Rattle.read_string.proofs.close.Goals as goal

pub overflow_cast-e : goal.overflow_cast-e
overflow_cast-e c =
    let h = c.requires.next in
    omega (arith, stands_within h, h.short)

pub pos_of-end-requires : goal.pos_of-end-requires
pos_of-end-requires c =
    let p = c.requires in
    asks p.standing _ p.next.sound.order (stands_within p.next)

pub overflow_cast-e-2 : goal.overflow_cast-e-2
overflow_cast-e-2 c =
    let h = c.requires.next in
    omega (arith, stands_within h, h.short)

pub token-requires : goal.token-requires
token-requires c = c.contents-payload.ensures.sized _

pub returns : goal.returns
unfolding kind kind_names number_from
returns c =
    λ f acc h e. close_reads _ _ c.requires c.pos_of-end.ensures c.advance.ensures c.token.ensures f acc (c.contents-payload.ensures.describes _ _ f acc h e)
