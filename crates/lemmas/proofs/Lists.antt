-- Parts of lists. Rests on the laws of `take`, `drop` and `slice` of `lib.ListN` and `lib.Seq`.
use Prim.Native.Nat.{ℕ, ◌≤◌}
use mathlib.Core.Path.{◌≡◌, sym, ap, ◌∙◌}
use mathlib.Core.List.{List, ◌++◌}
use native.Mathlib.Omega.{arith}
use lib.ListN.{length, take, drop, length-take, take-append-drop}
use lib.Seq.{slice, drop-append-le}

-- The part from i up to j, and then what follows j, is what follows i.
pub slice_then_drop : {A : Type 0} (i j : ℕ) (s : List A) → i ≤ j → j ≤ length s → slice i j s ++ drop j s ≡ drop i s
slice_then_drop i j s h k =
    let l : i ≤ length (take j s) = omega (arith, length-take j s) in
    sym (drop-append-le i (take j s) (drop j s) l) ∙ ap (drop i) (take-append-drop j s)
