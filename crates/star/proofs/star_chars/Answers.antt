-- By bytes as far as they are ASCII; what is beyond it is decoded.
use mathlib.Core.Path.{sym, ◌∙◌}
use Rattle.star.proofs.RunLaws.{ascii_rest, ascii_end}
use Rattle.star.proofs.star_chars.Goals as goal

pub returns-then-beyond_ascii_at : goal.returns-then-beyond_ascii_at
returns-then-beyond_ascii_at g c = let small = g.met.T.AsciiTest.small c.args.test in let agrees = g.met.T.CharTest.agrees c.args.test in
    c.star_decoded.ensures ∙ rw c.star_ascii-j.ensures (ascii_rest small agrees _ _)

pub returns : goal.returns
returns g c = let small = g.met.T.AsciiTest.small c.args.test in let agrees = g.met.T.CharTest.agrees c.args.test in
    c.star_ascii-j.ensures ∙ ascii_end small agrees _ _ (rw c.star_ascii-j.ensures at (sym c.beyond_ascii_at.ensures ∙ c.if-beyond_ascii_at.false))
