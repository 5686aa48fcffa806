-- `line_comment` reads what the definition's gives: its end and its positions are the definition's.
use mathlib.Core.Path.{ap, ◌∙◌}
use native.Mathlib.Omega.{arith}
use Rattle.definition.specs.State.{one_more_comment}
use Rattle.definition.specs.declared.State.{State}
use Rattle.reader.proofs.Standing.{asks_here}
use Rattle.read_comment.proofs.Small.{small}
use Rattle.read_comment.proofs.ReadLaws.{line_ends, line_asked, line_reads}
use Rattle.read_comment.proofs.line_comments.line_comment.Goals as goal

pub pos_of-start-requires : goal.pos_of-start-requires
pos_of-start-requires c = asks_here c.requires.standing

pub overflow_cast-to : goal.overflow_cast-to
overflow_cast-to c =
    omega (arith, line_ends c.requires c.run_end-to.ensures)

pub pos_of-end-requires : goal.pos_of-end-requires
pos_of-end-requires c =
    line_asked c.requires c.run_end-to.ensures c.pos_of-start.ensures

pub overflow_cast-to-2 : goal.overflow_cast-to-2
overflow_cast-to-2 c =
    omega (arith, line_ends c.requires c.run_end-to.ensures)

pub one_more_comment-next-requires : goal.one_more_comment-next-requires
one_more_comment-next-requires c =
    let h = small c.requires.standing.stands in
    omega (arith, h.counts, ap (λ (a : State). a.comments) c.advance.ensures)

pub overflow_cast-item : goal.overflow_cast-item
overflow_cast-item c =
    omega (arith, c.saturating_sub.ensures, line_ends c.requires c.run_end-to.ensures)

pub returns : goal.returns
returns c =
    line_reads c.requires c.run_end-to.ensures c.saturating_sub.ensures c.pos_of-start.ensures
    c.pos_of-end.ensures (c.one_more_comment-next.ensures ∙ ap one_more_comment c.advance.ensures)
