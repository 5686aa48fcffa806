-- What is left from the left, and of that what is left from the right.
use Prim.Native.Nat.{◌-◌}
use mathlib.Core.Path.{◌≡◌}
use native.Mathlib.Omega.{arith}
use lib.ListN.{length, take, drop, length-drop}
use lib.Seq.{take_all}
use Rattle.number_value.proofs.Stripping.{cleaned}
use Rattle.number_value.proofs.cleaning.clean_number.Goals as goal

pub returns : goal.returns
returns c =
    let s = c.args.lexeme.now in
    let from = c.strip_left-from.result in
    let rest : take (length s - from) (drop from s) ≡ drop from s = take_all _ _ (simp length-drop (omega arith)) in
    cleaned c.strip_left-from.ensures (rw rest at c.strip_right.ensures)
