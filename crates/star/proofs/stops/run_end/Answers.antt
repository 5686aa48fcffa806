-- The ASCII by bytes, and what is beyond it character by character: after both the run goes on as from i.
use mathlib.Core.Path.{refl, sym, ◌∙◌}
use native.Mathlib.Omega.{arith}
use Rattle.star.specs.Stops.{goes_on, ascii_goes_on}
use Rattle.star.specs.TestLaws.{small_goes_on, ascii_inside}
use Rattle.star.proofs.CodeLaws.{mixed_on, mixed_end, mixed_past}
use Rattle.star.proofs.stops.run_end.Goals as goal

pub loop-inside-init : goal.loop-inside-init
loop-inside-init c = (c.args.i, c.star_ascii-j.ensures, refl)

pub returns-then-beyond_ascii_at : goal.returns-then-beyond_ascii_at
returns-then-beyond_ascii_at c =
    let v = c.loop-inside.invariant in
    c.inside_beyond-k.ensures.over (sym c.beyond_ascii_at-in-loop-inside.ensures ∙ c.if-beyond_ascii_at.true)
    ∙ mixed_on (small_goes_on c.args.a c.args.b) (ascii_inside c.args.a c.args.b) _ _ _ v.0 v.1 v.2

pub loop-inside-smaller : goal.loop-inside-smaller
loop-inside-smaller c =
    omega (arith, mixed_past (goes_on c.args.a c.args.b) (ascii_goes_on c.args.a c.args.b) _ _ _ _ c.beyond_ascii_at.ensures c.loop-inside-test.true c.beyond_ascii_at-in-loop-inside.ensures c.if-beyond_ascii_at.false c.inside_beyond-k.ensures c.star_ascii-j-in-loop-inside.ensures)

pub loop-inside-preserved : goal.loop-inside-preserved
loop-inside-preserved c =
    let v = c.loop-inside.invariant in
    (c.inside_beyond-k.result, c.star_ascii-j-in-loop-inside.ensures, c.inside_beyond-k.ensures.on ∙ mixed_on (small_goes_on c.args.a c.args.b) (ascii_inside c.args.a c.args.b) _ _ _ v.0 v.1 v.2)

pub returns : goal.returns
returns c =
    let v = c.loop-inside.invariant in
    mixed_end (small_goes_on c.args.a c.args.b) (ascii_inside c.args.a c.args.b) _ _ _ v.0 v.1 v.2 c.beyond_ascii_at.ensures c.loop-inside-test.false
