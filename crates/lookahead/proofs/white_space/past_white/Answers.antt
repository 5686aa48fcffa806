-- A run of white space and a line end are passed as a turn passes them.
use mathlib.Core.Path.{sym, ◌∙◌}
use Rattle.rules.proofs.RuleLaws.{end_fits, line_fits}
use Rattle.lookahead.proofs.WhiteLaws.{blank_chose, blank_passes, line_chose, line_passes}
use Rattle.lookahead.proofs.white_space.past_white.Goals as goal

pub moved-requires : goal.moved-requires
moved-requires c =
    end_fits (blank_chose c.requires (sym c.passes_at.ensures ∙ c.if-passes_at.true) c.star_chars.ensures)

pub returns-then-passes_at : goal.returns-then-passes_at
returns-then-passes_at c =
    blank_passes c.requires (sym c.passes_at.ensures ∙ c.if-passes_at.true) c.star_chars.ensures c.moved.ensures

pub next_line-requires : goal.next_line-requires
next_line-requires c =
    let h = line_chose c.requires (sym c.byte_either.ensures ∙ c.if-not-byte_either.false) (sym c.match_newline.ensures ∙ c.in_ok-e.was) in
    (end_fits h, line_fits h)

pub returns : goal.returns
returns c =
    line_passes c.requires (sym c.byte_either.ensures ∙ c.if-not-byte_either.false) (sym c.match_newline.ensures ∙ c.in_ok-e.was) c.next_line.ensures
