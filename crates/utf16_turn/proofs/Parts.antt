-- A part of a buffer that was written over, and is then lent and written over again. Rests on the laws of lists.
use Prim.Native.Nat.{ℕ, ◌≤◌}
use mathlib.Core.Path.{◌≡◌, sym, ap, ap₂, ◌∙◌}
use mathlib.Core.List.{List, ◌++◌}
use lib.ListN.{length, take, drop}
use lib.Seq.{length-take-le, take-append_seam, drop-append_seam}
use borrow.Rule.Slice.PartMut.{put_mid}
use Rattle.definition.specs.Run.{put}

module _ (l : List ℕ) (at : ℕ) (vs : List ℕ) (within : at ≤ length l) where
  size : at ≡ length (take at l)
  size = sym (length-take-le at l within)

  -- what is left before the place, and what stands from there on
  front : (rest : List ℕ) → take at (take at l ++ rest) ≡ take at l
  front rest = ap (λ (n : ℕ). take n (take at l ++ rest)) size ∙ take-append_seam (take at l) rest

  back : (rest : List ℕ) → drop at (take at l ++ rest) ≡ rest
  back rest = ap (λ (n : ℕ). drop n (take at l ++ rest)) size ∙ drop-append_seam (take at l) rest

  -- what was written there
  pub part_there : take (length vs) (drop at (put l at vs)) ≡ vs
  unfolding put
  part_there = ap (take (length vs)) (back _) ∙ take-append_seam vs _

  -- and what the buffer is when something as long was written instead
  pub part_again : (ws : List ℕ) → length ws ≡ length vs → put_mid at (length vs) (put l at vs) ws ≡ put l at ws
  unfolding put
  part_again ws e =
      ap₂ (λ (x y : List ℕ). x ++ (ws ++ drop (length vs) y)) (front _) (back _)
      ∙ ap (λ (y : List ℕ). take at l ++ (ws ++ y)) (rw e (drop-append_seam vs _))
