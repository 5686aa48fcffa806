use mathlib.Core.Path.{refl, ap, ◌∙◌}
use Rattle.utf16_turn.specs.declared.Utf16Cursor.{Utf16Cursor}
use Rattle.lexer.proofs.Utf16ItemLaws.{utf16_starts, turn_asked, utf16_stops, utf16_goes_on}
use native.Mathlib.Omega.{arith}
use Rattle.lexer.proofs.utf16.run_items.Goals as goal

pub loop-stop-init : goal.loop-stop-init
loop-stop-init c = (rw c.cursor_at-at.ensures (utf16_starts _ _ _ _ _ _ c.requires), refl, refl)

pub turn-requires : goal.turn-requires
turn-requires c = (
  turn_asked c.loop-stop.invariant.0,
  record {
    classes = c.loop-stop.invariant.0.going.between.accepted;
    operators = c.op_char_table-ops.ensures;
    symbolchars = c.symbolchar_table-symbols.ensures;
  },
)

pub overflow_cast-result : goal.overflow_cast-result
overflow_cast-result c = omega (arith, c.loop-stop.invariant.0.going.between.kept.few)

pub shape_of-records-in-Stop : goal.shape_of-records-in-Stop
shape_of-records-in-Stop c = c.turn.auto.records ∙ c.loop-stop.invariant.1

pub shape_of-payload-in-Stop : goal.shape_of-payload-in-Stop
shape_of-payload-in-Stop c = c.turn.auto.payload ∙ c.loop-stop.invariant.2

pub returns-in-Stop : goal.returns-in-Stop
returns-in-Stop c =
    utf16_stops c.loop-stop.invariant.0 _ _ _ (rw c.in-Stop.is at c.turn.ensures)
    (ap (λ (x : Utf16Cursor). x.state) c.cursor_at-at.ensures) c.requires

pub overflow_add-count : goal.overflow_add-count
overflow_add-count c = omega (arith, c.loop-stop.invariant.0.going.between.kept.few)

pub loop-stop-smaller : goal.loop-stop-smaller
loop-stop-smaller c = (utf16_goes_on c.loop-stop.invariant.0 (rw c.in-Wrote.is at c.turn.ensures)).1

pub loop-stop-preserved : goal.loop-stop-preserved
loop-stop-preserved c =
    ((utf16_goes_on c.loop-stop.invariant.0 (rw c.in-Wrote.is at c.turn.ensures)).0, c.turn.auto.records ∙ c.loop-stop.invariant.1, c.turn.auto.payload ∙ c.loop-stop.invariant.2)
