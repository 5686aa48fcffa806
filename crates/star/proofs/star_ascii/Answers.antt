use mathlib.Core.Path.{◌∙◌}
use Rattle.star.proofs.CodeLaws.{byte_here, byte_turn, byte_end, text_end}
use Rattle.star.proofs.star_ascii.Goals as goal

pub returns-then-not-passes : goal.returns-then-not-passes
returns-then-not-passes g c =
    byte_end _ (g.met.T.AsciiTest.small c.args.test) _ _ _ (byte_here _ _ _ c.loop-j-test.true c.passes.ensures) c.loop-j.invariant c.if-not-passes.true

pub loop-j-preserved : goal.loop-j-preserved
loop-j-preserved g c =
    byte_turn _ (g.met.T.AsciiTest.small c.args.test) _ _ _ (byte_here _ _ _ c.loop-j-test.true c.passes.ensures) c.loop-j.invariant c.if-not-passes.false

pub returns : goal.returns
returns g c = c.max.ensures ∙ text_end _ _ _ _ c.loop-j.invariant c.loop-j-test.false c.loop-j.auto.j c.loop-j.auto.j-end
