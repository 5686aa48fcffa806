-- `at_stop` is a turn of the definition's `comment` where no run stands. The line and the depth of a sound state fit, and so does the offset
-- after a line end, which lies within the text.
use mathlib.Core.Path.{sym, ap, ◌∙◌}
use native.Mathlib.Omega.{arith}
use Rattle.laws_progress.proofs.Matches.{newline_ends}
use Rattle.reader.specs.declared.Cursor.{Cursor}
use Rattle.read_comment.proofs.Small.{small}
use Rattle.read_comment.proofs.TurnLaws.{turns_open, turns_line}
use Rattle.read_comment.proofs.at_stop.Goals as goal

pub moved-inside-requires : goal.moved-inside-requires
moved-inside-requires c =
    let h = small c.requires.inside.standing.stands in
    omega (arith, h.offset)

pub deeper-requires : goal.deeper-requires
deeper-requires c =
    let h = small c.requires.inside.standing.stands in
    omega (arith, h.counts, ap (λ (p : Cursor). p.st.depth) c.moved-inside.ensures)

pub returns-then-byte_pair : goal.returns-then-byte_pair
returns-then-byte_pair c =
    turns_open c.requires c.args.from (sym c.byte_pair.ensures ∙ c.if-byte_pair.true) c.moved-inside.ensures c.deeper.ensures

pub at_mark-requires : goal.at_mark-requires
at_mark-requires c =
    record {
      stopped = c.requires;
      shut = sym c.byte_pair.ensures ∙ c.if-byte_pair.false;
      line = sym c.match_newline.ensures ∙ c.in_default.is;
    }

pub next_line-requires : goal.next_line-requires
next_line-requires c =
    let e = (newline_ends _ _).at (sym c.match_newline.ensures ∙ c.in-Some.is) in
    let g = c.requires.inside.standing.stands in
    let h = small g in
    (omega (arith, e.within, g.short), omega (arith, h.line))

pub returns : goal.returns
returns c =
    turns_line c.requires c.args.from (sym c.byte_pair.ensures ∙ c.if-byte_pair.false) (sym c.match_newline.ensures ∙ c.in-Some.is)
    c.next_line.ensures
