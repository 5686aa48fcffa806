-- A run comes before a continued line, and that before the rest.
use mathlib.Core.Path.{sym, ◌∙◌}
use Rattle.read_string.proofs.MoveLaws.{move_run, move_skip, move_stop}
use Rattle.read_string.proofs.moves.string_move.Goals as goal

pub returns-then-i-j : goal.returns-then-i-j
returns-then-i-j c = move_run _ _ _ c.run_end-j.ensures c.if-i-j.true

pub returns-in_default : goal.returns-in_default
returns-in_default c =
    move_stop _ _ _ c.run_end-j.ensures c.if-i-j.false (sym c.broken_line.ensures ∙ c.in_default.is) c.stop_move.ensures

pub returns : goal.returns
returns c =
    move_skip _ _ _ c.run_end-j.ensures _ c.if-i-j.false (sym c.broken_line.ensures ∙ c.in-Some.is) c.star_chars.ensures
