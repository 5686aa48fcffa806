-- A high half and a low one at once after it are a character, and any other surrogate is none.
use mathlib.Core.Path.{sym, ◌∙◌}
use Rattle.read_string.proofs.MoveLaws.{surrogate_not_high, surrogate_last, surrogate_not_low, surrogate_pair}
use Rattle.read_string.proofs.moves.surrogate_move.Goals as goal

pub returns-then-not-is_high_half : goal.returns-then-not-is_high_half
returns-then-not-is_high_half c = surrogate_not_high _ _ _ (sym c.is_high_half.ensures ∙ c.if-not-is_high_half.true)

pub returns-in_default : goal.returns-in_default
returns-in_default c =
    surrogate_last _ _ _
    (sym c.is_high_half.ensures ∙ c.if-not-is_high_half.false) (sym c.match_escape.ensures ∙ c.in_default.is)

pub returns-then-not-is_low_half : goal.returns-then-not-is_low_half
returns-then-not-is_low_half c =
    surrogate_not_low _ _ _
    (sym c.is_high_half.ensures ∙ c.if-not-is_high_half.false)
    c.unescape-low.ensures
    (sym c.is_low_half.ensures ∙ c.if-not-is_low_half.true)

pub joined-requires : goal.joined-requires
joined-requires c =
    record {
      high = sym c.is_high_half.ensures ∙ c.if-not-is_high_half.false;
      low = sym c.is_low_half.ensures ∙ c.if-not-is_low_half.false;
    }

pub returns : goal.returns
returns c =
    surrogate_pair _ _ _
    (sym c.is_high_half.ensures ∙ c.if-not-is_high_half.false)
    (sym c.match_escape.ensures ∙ c.in-Some.is)
    c.unescape-low.ensures
    (sym c.is_low_half.ensures ∙ c.if-not-is_low_half.false)
    c.joined.ensures
