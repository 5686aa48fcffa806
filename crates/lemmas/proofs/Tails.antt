-- Tails of a buffer that are lent and written over, and what is written after what was written before. Rests on the laws of
-- buffers that are written over.
use Prim.Native.Nat.{ℕ, ◌+◌, ◌-◌, ◌≤◌}
use mathlib.Core.Path.{◌≡◌, sym, ap, ap₂, ◌∙◌}
use mathlib.Core.List.{List, ◌++◌, append-nil, append_assoc}
use native.Mathlib.Nat.{le_refl}
use native.Mathlib.Omega.{arith}
use lib.ListN.{length, take, drop, length-append, length-drop, length-take, drop_of_length-le}
use lib.Seq.{take_all, drop-drop, take-append_seam, drop-append-add}
use borrow.Rule.Slice.PartMut.{mid_of, put_mid}
use Rattle.definition.specs.Run.{put}
use Rattle.lemmas.specs.Over.{over}

-- The tail that is lent is the whole tail.
pub tail_lent : (l : List ℕ) (at : ℕ) → take (length l - at) (drop at l) ≡ drop at l
tail_lent l at = take_all (length l - at) (drop at l) (simp length-drop (le_refl (length l - at)))

-- What comes back of a tail that was lent, and whose front was written over.
pub tail_back : (l : List ℕ) (at : ℕ) (vs : List ℕ) → take at l ++ (over vs (take (length l - at) (drop at l)) ++ drop (length l - at) (drop at l)) ≡ put l at vs
unfolding over put
tail_back l at vs =
    let e : length (drop at l) ≤ length l - at = simp length-drop (le_refl (length l - at)) in
    simp (take_all (length l - at) (drop at l) e, drop_of_length-le (drop at l) e, append-nil, drop-drop)

-- Written after what was written before.
pub write_more : (vs ws l : List ℕ) → put (over vs l) (length vs) ws ≡ over (vs ++ ws) l
unfolding put over
write_more vs ws l =
    ap₂ (λ (x y : List ℕ). x ++ (ws ++ y)) (take-append_seam vs (drop (length vs) l))
    (drop-append-add vs (drop (length vs) l) (length ws) ∙ drop-drop (length ws) (length vs) l ∙ ap (λ (n : ℕ). drop n l) (sym (length-append vs ws)))
    ∙ sym (append_assoc vs ws (drop (length (vs ++ ws)) l))

-- A tail that was lent, and whose front was written over.
pub lent : (l tail vs : List ℕ) (at : ℕ) → tail ≡ over vs (mid_of at (length l - at) l) → put_mid at (length l - at) l tail ≡ put l at vs
lent l tail vs at e = rw e (tail_back l at vs)

-- The tail after what was written before.
pub written_after : (l now tail a b : List ℕ) (at : ℕ) → now ≡ over a l → at ≡ length a → tail ≡ over b (mid_of at (length now - at) now)
    → put_mid at (length now - at) now tail ≡ over (a ++ b) l
written_after l now tail a b at m n e = lent now tail b at e ∙ rw (m, n) (write_more a b l)

-- The buffer keeps its length.
pub length_put : (l : List ℕ) (at : ℕ) (vs : List ℕ) → at + length vs ≤ length l → length (put l at vs) ≡ length l
unfolding put
length_put l at vs h = simp (length-append, length-drop, length-take) (omega arith)
