use mathlib.Core.Path.{refl, ◌∙◌}
use mathlib.Core.List.{[]}
use Rattle.run_turn.proofs.RunLaws.{between_any, going_starts, going_stops, going_on}
use Rattle.lexer.proofs.ItemLaws.{after_tokens}
use native.Mathlib.Omega.{arith}
use Rattle.lexer.proofs.run_items.Goals as goal

pub loop-stop-init : goal.loop-stop-init
loop-stop-init c = (going_starts _ _ _ _ _ _ c.requires, refl, refl)

pub write_tokens-written-requires : goal.write_tokens-written-requires
write_tokens-written-requires c =
    let between = c.loop-stop.invariant.0.between in (
      between_any between [] (omega arith),
      record {
        classes = between.accepted;
        operators = c.op_char_table-ops.ensures;
        symbolchars = c.symbolchar_table-symbols.ensures;
      },
    )

pub turn-requires : goal.turn-requires
turn-requires c =
    let w = c.write_tokens-written.ensures in
    let g = after_tokens c.loop-stop.invariant.0 w in
    (g.between, w.ahead _ g.between.named)

pub overflow_cast-result : goal.overflow_cast-result
overflow_cast-result c =
    let g = after_tokens c.loop-stop.invariant.0 c.write_tokens-written.ensures in
    omega (arith, g.between.kept.few)

pub shape_of-records-in-Stop : goal.shape_of-records-in-Stop
shape_of-records-in-Stop c = c.turn.auto.records ∙ c.write_tokens-written.auto.records ∙ c.loop-stop.invariant.1

pub shape_of-payload-in-Stop : goal.shape_of-payload-in-Stop
shape_of-payload-in-Stop c = c.turn.auto.payload ∙ c.write_tokens-written.auto.bytes ∙ c.loop-stop.invariant.2

pub returns-in-Stop : goal.returns-in-Stop
returns-in-Stop c =
    let g = after_tokens c.loop-stop.invariant.0 c.write_tokens-written.ensures in
    going_stops g _ _ _ (rw c.in-Stop.is at c.turn.ensures)

pub overflow_add-count : goal.overflow_add-count
overflow_add-count c =
    let g = after_tokens c.loop-stop.invariant.0 c.write_tokens-written.ensures in
    omega (arith, g.between.kept.few)

pub loop-stop-smaller : goal.loop-stop-smaller
loop-stop-smaller c =
    let w = c.write_tokens-written.ensures in
    let g = after_tokens c.loop-stop.invariant.0 w in
    let on = going_on g _ _ _ _ (rw c.in-Wrote.is at c.turn.ensures) in
    omega (arith, on.1, w.less)

pub loop-stop-preserved : goal.loop-stop-preserved
loop-stop-preserved c =
    let g = after_tokens c.loop-stop.invariant.0 c.write_tokens-written.ensures in
    ((going_on g _ _ _ _ (rw c.in-Wrote.is at c.turn.ensures)).0, c.turn.auto.records ∙ c.write_tokens-written.auto.records ∙ c.loop-stop.invariant.1, c.turn.auto.payload ∙ c.write_tokens-written.auto.bytes ∙ c.loop-stop.invariant.2)
