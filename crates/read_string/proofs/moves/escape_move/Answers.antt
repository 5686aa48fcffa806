-- A surrogate is told from a character.
use mathlib.Core.Path.{sym, ◌∙◌}
use Rattle.read_string.proofs.MoveLaws.{escape_surrogate, escape_char}
use Rattle.read_string.proofs.moves.escape_move.Goals as goal

pub returns-then-is_surrogate : goal.returns-then-is_surrogate
returns-then-is_surrogate c =
    escape_surrogate _ _ _ c.unescape-c.ensures (sym c.is_surrogate.ensures ∙ c.if-is_surrogate.true) c.surrogate_move.ensures

pub returns : goal.returns
returns c = escape_char _ _ _ c.unescape-c.ensures (sym c.is_surrogate.ensures ∙ c.if-is_surrogate.false)
