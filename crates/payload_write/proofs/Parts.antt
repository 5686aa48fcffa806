-- What stands in a buffer when parts are written one after the other. Rests on the laws of buffers that are written over.
use Prim.Native.Nat.{ℕ, suc, ◌+◌, ◌-◌, ◌≤◌, ◌<◌}
use mathlib.Core.Path.{◌≡◌, ap, ◌∙◌}
use mathlib.Core.List.{List, [], ◌∷◌, ◌++◌}
use native.Mathlib.Nat.{le_refl}
use native.Mathlib.Omega.{arith}
use lib.ListN.{length, drop, set, length-set}
use lib.Seq.{slice, take_all}
use borrow.Rule.Slice.PartMut.{mid_of, put_mid}
use Rattle.definition.specs.Basics.{Bytes}
use Rattle.definition.specs.Run.{put}
use Rattle.lemmas.specs.Over.{over, Wrote}
use Rattle.lemmas.proofs.Copies.{write_on}
use Rattle.lemmas.proofs.Tails.{lent, length_put}

-- an element in front of a tail that was written
front : (l vs : List ℕ) (x : ℕ) → 1 ≤ length l → set (put l 1 vs) 0 x ≡ over (x ∷ vs) l
unfolding over put
front [] vs x h = absurd (omega arith)
front (y ∷ l) vs x h =
    let k : 1 + length vs ≡ suc (length vs) = omega arith in
    rw k

pub in_front : (l tail vs : List ℕ) (x : ℕ) → 1 ≤ length l → tail ≡ over vs (mid_of 1 (length l - 1) l) → set (put_mid 1 (length l - 1) l tail) 0 x ≡ over (x ∷ vs) l
in_front l tail vs x h e = ap (λ (m : List ℕ). set m 0 x) (lent l tail vs 1 e) ∙ front l vs x h

-- and an element after it
pub on_both_sides : (l tail vs : List ℕ) (x y n : ℕ) → n ≡ length vs → length vs + 2 ≤ length l → tail ≡ over vs (mid_of 1 (length l - 1) l)
    → set (set (put_mid 1 (length l - 1) l tail) 0 x) (1 + n) y ≡ over ((x ∷ []) ++ (vs ++ (y ∷ []))) l
on_both_sides l tail vs x y n q h e =
    let k : 1 + n ≡ length (x ∷ vs) = omega arith in
    ap (λ (m : List ℕ). set m (1 + n) y) (in_front l tail vs x (omega arith) e)
    ∙ ap (λ (i : ℕ). set (over (x ∷ vs) l) i y) k
    ∙ write_on (x ∷ vs) l y (omega arith)

-- all of some bytes
pub whole : (s l : Bytes) → over (slice 0 (length s) s) l ≡ over s l
whole s l = ap (λ (t : Bytes). over t l) (take_all (length s) s (le_refl (length s)))

-- all of some bytes, copied to the front
pub copied : {w vs : Bytes} (l : Bytes) → w ≡ vs → w ++ drop (length vs) l ≡ over vs l
unfolding over
copied {w} {vs} l e = ap (λ (v : Bytes). v ++ drop (length vs) l) e

-- after the digits of a number there is room for a parenthesis
pub mark_room : (l tail vs : List ℕ) (x n : ℕ) → length vs + 2 ≤ length l → Wrote vs (mid_of 1 (length l - 1) l) tail n → 1 + n < length (set (put_mid 1 (length l - 1) l tail) 0 x)
mark_room l tail vs x n h w =
    let e : length (put l 1 vs) ≡ length l = length_put l 1 vs (omega arith) in
    simp (length-set, lent l tail vs 1 w.bytes) (omega (arith, e, w.all))
