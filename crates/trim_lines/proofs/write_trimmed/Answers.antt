use mathlib.Core.Path.{refl, sym, ap, ◌∙◌}
use Rattle.trim_lines.specs.Trimming.{kept}
use Rattle.trim_lines.proofs.Pieces.{coming_all}
use Rattle.trim_lines.proofs.Lines.{kept_is}
use Rattle.trim_lines.proofs.Writing.{writing_starts, writing_at, writing_mark, writing_fits, writing_on, writing_ends}
use Rattle.trim_lines.proofs.write_trimmed.Goals as goal

pub loop-b-init : goal.loop-b-init
loop-b-init c =
    let width = c.args.width in
    writing_starts (kept_is _ _ ∙ ap (kept width width) (sym (coming_all c.part-b-items.ensures))) c.requires.room

pub put-length-requires : goal.put-length-requires
put-length-requires c = writing_fits (writing_at _ _ c.loop-b.invariant c.loop-b-test.true)

pub loop-b-preserved : goal.loop-b-preserved
loop-b-preserved c =
    let w = writing_at _ _ c.loop-b.invariant c.loop-b-test.true in
    writing_on w c.put-length.ensures c.left_after-left.ensures

pub put-length-requires-2 : goal.put-length-requires-2
put-length-requires-2 c = writing_fits (writing_mark _ _ c.loop-b.invariant c.loop-b-test.false)

pub put-requires : goal.put-requires
put-requires c =
    let w = writing_mark _ _ c.loop-b.invariant c.loop-b-test.false in
    writing_fits (writing_on w c.put-length-2.ensures c.left_after-left-2.ensures)

pub returns : goal.returns
returns c =
    let w = writing_mark _ _ c.loop-b.invariant c.loop-b-test.false in
    let v = writing_on w c.put-length-2.ensures c.left_after-left-2.ensures in
    writing_ends (writing_on v c.put.ensures refl)
