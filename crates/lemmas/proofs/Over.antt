-- Buffers that are written over, from the front or from the back. Rests on the laws of `take`, `drop` and `set` of `lib.ListN` and
-- `lib.Seq`.
use Prim.Native.Nat.{ℕ, zero, suc, ◌≤◌, ◌<◌}
use mathlib.Core.Path.{◌≡◌, refl, sym, ap, ◌∙◌}
use mathlib.Core.List.{List, [], ◌∷◌, ◌++◌}
use native.Mathlib.Nat.{le_of_suc-le-suc, not-suc-le-zero, zero-add}
use native.Mathlib.Omega.{arith}
use lib.ListN.{length, take, drop, set, length-append, length-drop}
use lib.Seq.{sets, sets-eq}
use Rattle.lemmas.specs.Over.{over, Wrote}

-- A buffer keeps its length.
pub length_over : (vs l : List ℕ) → length vs ≤ length l → length (over vs l) ≡ length l
unfolding over
length_over vs l h = simp (length-append, length-drop) (omega arith)

-- Where a buffer is written from the back on, one element more stands in front of those written.
pub write_back : (l r : List ℕ) (at x : ℕ) → at < length l → set (take (suc at) l ++ r) at x ≡ take at l ++ (x ∷ r)
write_back [] r at x h = absurd (not-suc-le-zero h)
write_back (y ∷ l) r zero x h = refl
write_back (y ∷ l) r (suc at) x h = ap (λ (m : List ℕ). y ∷ m) (write_back l r at x (le_of_suc-le-suc h))

-- Elements that are stored one by one from the front on.
pub stored : (w vs l : List ℕ) → w ≡ vs → length w ≤ length l → Wrote w l (sets l 0 vs) (length vs)
unfolding over
stored w vs l e h = record {
  all = ap length (sym e);
  bytes = rw e (sets-eq vs l 0 (rw (← e, zero-add) h) ∙ ap (λ (k : ℕ). vs ++ drop k l) (zero-add (length vs)));
}
