-- Where nothing stands between i and j, nothing is counted; else it is the count of one part, or of many.
use mathlib.Core.Path.{◌≡◌, sym}
use Prim.Native.Nat.{◌-◌}
use native.Mathlib.Omega.{arith}
use Rattle.std.proofs.lemmas.List.{length-take, length-drop, take-append-drop}
use Rattle.definition.specs.Position.{count_chars}
use Rattle.position.proofs.Counting.{count_of_front}
use Rattle.position.proofs.count_chars.Goals as goal

pub returns-then-j-i : goal.returns-then-j-i
unfolding count_chars
returns-then-j-i c =
    let none : c.args.j - c.args.i ≡ 0 = omega arith in
    rw none

pub returns-then-bytes-lt32 : goal.returns-then-bytes-lt32
returns-then-bytes-lt32 c = rw (c.from.ensures, c.count_part.ensures) (count_of_front _ _ _ _ _ (sym (take-append-drop _ _)) (simp (length-take, length-drop) (omega arith)))

pub returns : goal.returns
returns c = rw c.count_parts.ensures (count_of_front _ _ _ _ _ (sym (take-append-drop _ _)) (simp (length-take, length-drop) (omega arith)))
