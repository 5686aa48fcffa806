-- Each arm answers what the definition's turn makes of what stands at the offset.
use mathlib.Core.Path.{sym, ◌∙◌}
use Rattle.read_blob.proofs.TurnLaws.{close_stands, line_fits, on_fits, close_turns, open_turns, line_turns, on_turns}
use Rattle.read_blob.proofs.turn.Goals as goal

pub closed-requires : goal.closed-requires
closed-requires c =
    (c.requires, close_stands _ _ _ _ c.requires c.args.lang _ (sym c.move_at.ensures ∙ c.in-Close.is))

pub next_line-requires : goal.next_line-requires
next_line-requires c =
    line_fits _ _ _ _ c.requires c.args.lang _ (sym c.move_at.ensures ∙ c.in-Line.is)

pub moved-requires : goal.moved-requires
moved-requires c =
    on_fits _ _ _ _ c.requires c.args.lang _ (sym c.move_at.ensures ∙ c.in-On.is)

pub returns-in-Close : goal.returns-in-Close
returns-in-Close c =
    λ f. close_turns _ _ _ _ c.requires c.args.lang _ _ _ f (sym c.move_at.ensures ∙ c.in-Close.is) (c.closed.ensures _ f)

pub returns-in-Open : goal.returns-in-Open
returns-in-Open c =
    λ f. open_turns _ _ _ _ c.requires c.args.lang _ _ f (sym c.move_at.ensures ∙ c.in-Open.is) (c.error_here.ensures f)

pub returns-in-Line : goal.returns-in-Line
returns-in-Line c =
    λ f. line_turns _ _ _ _ c.requires c.args.lang _ _ _ f (sym c.move_at.ensures ∙ c.in-Line.is) c.next_line.ensures

pub returns-in-On : goal.returns-in-On
returns-in-On c =
    λ f. on_turns _ _ _ _ c.requires c.args.lang _ _ _ f (sym c.move_at.ensures ∙ c.in-On.is) c.moved.ensures
