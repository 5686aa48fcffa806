-- The count begins where the column is known, at the known offset or at the line start (`begun`), and the column goes on from there
-- (`from_known`); no sum wraps, since a column is at most the line start's and the bytes since.
use native.Mathlib.Omega.{arith}
use Prim.Native.Nat.{◌≤◌}
use Rattle.definition.specs.Position.{one_each}
use Rattle.position.specs.Columns.{Known}
use Rattle.position.proofs.Counting.{from_known, start_known, count_fits, column_fits}
use Rattle.position.proofs.column_from.Goals.{then-i-known, else-i-known}
use Rattle.position.proofs.column_from.Goals as goal

pub overflow_cast-result : goal.overflow_cast-result
overflow_cast-result c = omega (arith, count_fits _ _ _ _ (omega arith) c.count_chars-n.ensures)

pub returns : goal.returns
returns c =
    let begun : Known one_each c.args.text.now c.args.st c.if-i-known.start × (c.if-i-known.start.off ≤ c.args.i) =
    elim c.if-i-known.branch [
      | then-i-known w ↦ rw w.start-is (start_known _ _ _, c.requires.from)
      | else-i-known w ↦ rw w.start-is (c.requires.cached, w.if-i-known.false)
    ] in
    from_known _ _ _ _ _ _ begun.0 begun.1 c.count_chars-n.ensures

pub overflow_add-result : goal.overflow_add-result
overflow_add-result c = omega (arith, column_fits _ c.requires (returns c))
