-- The range's positions are asked for one after the other.
use Rattle.reader.proofs.ActionBuilding.{over_reads}
use Rattle.reader.proofs.Spanning.{asked_stands, end_asked, same_line}
use Rattle.rules.proofs.finishes.error_over.Goals as goal

pub pos_of-last-requires : goal.pos_of-last-requires
pos_of-last-requires c = end_asked c.requires.0 _ c.pos_of-first.ensures

pub lex_error-requires : goal.lex_error-requires
lex_error-requires c =
    let p = c.requires in
    (asked_stands _ p.0.standing (same_line p.0) c.pos_of-last.ensures, p.1)

pub returns : goal.returns
returns c =
    λ f bytes q. over_reads c.requires.0 _ _ c.pos_of-first.ensures c.pos_of-last.ensures (c.lex_error.ensures f bytes q)
