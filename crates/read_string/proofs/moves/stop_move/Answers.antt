-- A line's end comes before an escape, and an escape before the rest.
use mathlib.Core.Path.{sym, ◌∙◌}
use Rattle.read_string.proofs.MoveLaws.{stop_line, stop_escape, stop_last}
use Rattle.read_string.proofs.moves.stop_move.Goals as goal

pub returns-in-Some : goal.returns-in-Some
returns-in-Some c = stop_line _ _ (sym c.match_newline.ensures ∙ c.in-Some.is)

pub returns-in_default-match_escape : goal.returns-in_default-match_escape
returns-in_default-match_escape c =
    stop_last _ _ (sym c.match_newline.ensures ∙ c.in_default.is) (sym c.match_escape.ensures ∙ c.in_default-match_escape.is) c.last_move.ensures

pub returns : goal.returns
returns c =
    stop_escape _ _ _ (sym c.match_newline.ensures ∙ c.in_default.is) (sym c.match_escape.ensures ∙ c.in-Some-match_escape.is) c.escape_move.ensures
