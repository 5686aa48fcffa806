-- What `on_known_line` says, and that the run of ASCII after the known place reaches the end.
use mathlib.Core.Bool.{false≢true}
use native.Mathlib.Omega.{arith}
use Rattle.utf16_positions.proofs.PlainLaws.{reaches}
use Rattle.utf16_positions.proofs.PlaceLaws.{on_known}
use Rattle.utf16_positions.proofs.plain.plain_here.Goals as goal

pub returns-then-not-on_known_line : goal.returns-then-not-on_known_line
returns-then-not-on_known_line c = λ e. absurd (false≢true e)

pub overflow_sub-result : goal.overflow_sub-result
overflow_sub-result c =
    let o = c.on_known_line.ensures c.if-not-on_known_line.false in
    omega (arith, o.after, o.order)

pub overflow_add-result : goal.overflow_add-result
overflow_add-result c =
    let k = on_known c.requires.0 in
    omega (arith, k.within, k.short, c.type_inv.out 5)

pub returns : goal.returns
returns c = λ e.
    let o = c.on_known_line.ensures c.if-not-on_known_line.false in
    reaches c.requires.0 o c.ascii_from.ensures e

pub overflow_cast-result : goal.overflow_cast-result
overflow_cast-result c = omega (arith, c.type_inv.out 5)
