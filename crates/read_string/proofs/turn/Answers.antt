-- Each arm answers what the definition's turn makes of what stands there.
use mathlib.Core.Path.{sym, ◌∙◌}
use Rattle.read_string.proofs.ReadLaws.{on_fits, line_fits, on_known, line_known, move_turns}
use Rattle.read_string.proofs.LiteralLaws.{literal_closed}
use Rattle.read_string.proofs.turn.Goals as goal

pub moved-requires : goal.moved-requires
moved-requires c =
    on_fits c.args.at.st (rw c.in-Copy.is at c.requires.safe).0

pub next_line-requires : goal.next_line-requires
next_line-requires c =
    line_fits c.args.at.st (rw c.in-Skip.is at c.requires.safe).0

pub next_line-requires-in-Line : goal.next_line-requires-in-Line
next_line-requires-in-Line c =
    line_fits c.args.at.st (rw c.in-Line.is at c.requires.safe).0

pub moved-requires-in-Char : goal.moved-requires-in-Char
moved-requires-in-Char c =
    on_fits c.args.at.st (rw c.in-Char.is at c.requires.safe).0

pub close-requires : goal.close-requires
close-requires c =
    record { standing = c.requires.standing; next = rw c.in-Close.is at c.requires.safe; small = c.requires.small }

pub returns-in-Copy : goal.returns-in-Copy
returns-in-Copy c =
    λ f acc q h. move_turns _ _ _ _ _ _ _ _ c.in-Copy.is f acc (on_known c.requires.standing c.moved.ensures)

pub returns-in-Skip : goal.returns-in-Skip
returns-in-Skip c =
    λ f acc q h. move_turns _ _ _ _ _ _ _ _ c.in-Skip.is f acc (line_known c.requires.standing c.next_line.ensures)

pub returns-in-Line : goal.returns-in-Line
returns-in-Line c =
    λ f acc q h. move_turns _ _ _ _ _ _ _ _ c.in-Line.is f acc (line_known c.requires.standing c.next_line-in-Line.ensures)

pub returns-in-Char : goal.returns-in-Char
returns-in-Char c =
    λ f acc q h. move_turns _ _ _ _ _ _ _ _ c.in-Char.is f acc (on_known c.requires.standing c.moved-in-Char.ensures)

pub returns-in-Surrogate : goal.returns-in-Surrogate
returns-in-Surrogate c = λ f acc q h. move_turns _ _ _ _ _ _ _ _ c.in-Surrogate.is f acc (c.error_here.ensures f)

pub returns-in-Close : goal.returns-in-Close
returns-in-Close c =
    let e = c.in-Close.is in
    λ f acc q h. move_turns _ _ _ _ _ _ _ _ e f acc (c.close.ensures f acc h (sym h.spells ∙ literal_closed _ _ _ _ _ (q ∙ e)))

pub returns-in-Open : goal.returns-in-Open
returns-in-Open c = λ f acc q h. move_turns _ _ _ _ _ _ _ _ c.in-Open.is f acc (c.error_here-in-Open.ensures f)
