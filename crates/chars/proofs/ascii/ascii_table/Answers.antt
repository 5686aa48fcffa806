use mathlib.Core.Path.{sym, ap, ◌∙◌}
use borrow.Author.Tests.{ltb-true, ltb-false}
use lib.Seq.{take_all}
use Rattle.definition.specs.Chars.{ascii_table}
use Rattle.chars.proofs.AsciiTables.{filled_start, filled_next, filled_past, filled_all}
use Rattle.chars.proofs.ascii.ascii_table.Goals.{then-is_ascii, else-is_ascii}
use Rattle.chars.proofs.ascii.ascii_table.Goals as goal

pub loop-c-init : goal.loop-c-init
loop-c-init c = filled_start

pub loop-c-preserved : goal.loop-c-preserved
loop-c-preserved c = elim c.if-is_ascii.branch [
  | then-is_ascii w ↦
      let small = ltb-true _ _ (sym c.is_ascii.ensures ∙ w.if-is_ascii.true) in
      rw (w.table-is, w.from.ensures) (filled_next _ _ _ c.loop-c.invariant c.loop-c-test.true small)
  | else-is_ascii w ↦
      let large = ltb-false _ _ (sym c.is_ascii.ensures ∙ w.if-is_ascii.false) in
      rw w.table-is (filled_past _ _ _ c.loop-c.invariant c.loop-c-test.true large)
]

pub returns : goal.returns
returns c = filled_all _ _ c.loop-c.invariant ∙ ap ascii_table (take_all _ _ c.loop-c-test.false)
