-- The arms of the definition, in its order.
use mathlib.Core.Path.{sym, ◌∙◌}
use Rattle.read_blob.proofs.MoveLaws.{move_open, move_line, move_on}
use Rattle.read_blob.proofs.inside_move.Goals as goal

pub returns-then-text-i : goal.returns-then-text-i
returns-then-text-i c = move_open _ _ c.if-text-i.true

pub returns-in_default : goal.returns-in_default
returns-in_default c =
    move_on _ _ c.if-text-i.false (sym c.match_newline.ensures ∙ c.in_default.is) c.contents_move.ensures

pub returns : goal.returns
returns c =
    move_line _ _ c.if-text-i.false (sym c.match_newline.ensures ∙ c.in-Some.is)
