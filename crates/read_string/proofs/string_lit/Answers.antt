use Prim.Native.Nat.{◌-◌}
use mathlib.Core.Path.{sym}
use Rattle.read_string.proofs.LoopLaws.{reading_starts, reading_turns, reading_small, reading_ends, reading_goes_on}
use native.Mathlib.Omega.{arith}
use Rattle.read_string.proofs.string_lit.Goals as goal

pub loop-r-init : goal.loop-r-init
loop-r-init c = reading_starts c.requires

pub string_move-m-requires : goal.string_move-m-requires
string_move-m-requires c = c.requires.accepted

pub turn-requires : goal.turn-requires
turn-requires c = reading_turns c.loop-r.invariant c.string_move-m.ensures

pub returns-in-Done : goal.returns-in-Done
returns-in-Done c =
    let inv = c.loop-r.invariant in
    let e = c.string_move-m.ensures in
    reading_ends inv e _ _ (rw c.in-Done.is at (c.turn.ensures _ _ (sym e) inv.held))

pub loop-r-preserved : goal.loop-r-preserved
loop-r-preserved c =
    let inv = c.loop-r.invariant in
    let e = c.string_move-m.ensures in
    (reading_goes_on inv e _ _ _ c.added-count.ensures (rw c.in-Again.is at (c.turn.ensures _ _ (sym e) inv.held))).0

pub overflow_add-count : goal.overflow_add-count
overflow_add-count c = omega (arith, reading_small (loop-r-preserved c))

pub loop-r-smaller : goal.loop-r-smaller
loop-r-smaller c =
    let inv = c.loop-r.invariant in
    let e = c.string_move-m.ensures in
    (reading_goes_on inv e _ _ _ c.added-count.ensures (rw c.in-Again.is at (c.turn.ensures _ _ (sym e) inv.held))).1
