-- The bytes that stay, one by one. Rests on the definition of `kept`.
use Prim.Native.Nat.{ℕ, suc, ◌+◌, ◌-◌, ◌≤◌}
use mathlib.Core.Path.{◌≡◌, refl, ap, ◌∙◌}
use mathlib.Core.Bool.{Bool, true, false}
use mathlib.Core.List.{[], ◌∷◌}
use native.Mathlib.Omega.{arith}
use lib.Dec.{eqb}
use lib.ListN.{length}
use borrow.Author.Tests.{eq-eqb, ne_eqb}
use Rattle.definition.specs.Basics.{Bytes, ch}
use Rattle.lemmas.proofs.Cases.{by_outcome}
use Rattle.trim_lines.specs.Trimming.{keeps, left_after, kept, one_if}

-- ---- what the line loses

-- A line end begins a line.
pub left_newline : (width left b : ℕ) → b ≡ ch "\n" → left_after width left b ≡ width
unfolding left_after
left_newline width left b e = let q = eq-eqb b (ch "\n") e in simp (q, left_after)

-- Any other byte is lost, if one is to be.
pub left_other : (width left b : ℕ) → (b ≡ ch "\n" → ⊥) → left_after width left b ≡ left - 1
unfolding left_after
left_other width left b n = let q = ne_eqb b (ch "\n") n in simp (q, left_after)

-- ---- the bytes

one_most : (t : Bool) → one_if t ≤ 1
one_most true = omega arith
one_most false = omega arith

module _ (width : ℕ) where
  -- A line end stays, and begins a line.
  pub kept_newline : (left : ℕ) (b : ℕ) (l : Bytes) → eqb b (ch "\n") ≡ true → kept width left (b ∷ l) ≡ b ∷ kept width width l
  unfolding kept keeps left_after
  kept_newline left b l e = simp (e, kept, keeps, left_after)

  -- Any other byte goes where the line loses more.
  pub kept_less : (left : ℕ) (b : ℕ) (l : Bytes) → eqb b (ch "\n") ≡ false → kept width (suc left) (b ∷ l) ≡ kept width left l
  unfolding kept keeps left_after
  kept_less left b l e = let z : eqb (suc left) 0 ≡ false = ne_eqb (suc left) 0 (λ q. omega arith) in
      let n : suc left - 1 ≡ left = omega arith in
      simp (e, z, n, kept, keeps, left_after)

  -- Else it stays.
  pub kept_more : (b : ℕ) (l : Bytes) → eqb b (ch "\n") ≡ false → kept width 0 (b ∷ l) ≡ b ∷ kept width 0 l
  unfolding kept keeps left_after
  kept_more b l e = simp (e, kept, keeps, left_after)

  -- A byte stays in front of what stays after it.
  pub kept_stays : (left b : ℕ) (l : Bytes) → keeps left b ≡ true → kept width left (b ∷ l) ≡ b ∷ kept width (left_after width left b) l
  unfolding kept
  kept_stays left b l e = simp (e, kept)

  -- Or it goes.
  pub kept_goes : (left b : ℕ) (l : Bytes) → keeps left b ≡ false → kept width left (b ∷ l) ≡ kept width (left_after width left b) l
  unfolding kept
  kept_goes left b l e = simp (e, kept)

  -- So it counts 1 or 0.
  pub kept_count : (left b : ℕ) (l : Bytes) → length (kept width left (b ∷ l)) ≡ one_if (keeps left b) + length (kept width (left_after width left b) l)
  kept_count left b l =
      by_outcome (keeps left b)
      (λ e. ap length (kept_stays left b l e) ∙ rw e (omega arith))
      (λ e. ap length (kept_goes left b l e) ∙ rw e (omega arith))

  -- No bytes come to those that there are.
  pub kept_shorter : (left : ℕ) (l : Bytes) → length (kept width left l) ≤ length l
  unfolding kept
  kept_shorter left [] = omega arith
  kept_shorter left (b ∷ l) = omega (arith, kept_count left b l, one_most (keeps left b), kept_shorter (left_after width left b) l)

-- Where lines lose nothing all bytes stay.
pub kept_all : (l : Bytes) → kept 0 0 l ≡ l
unfolding kept
kept_all [] = refl
kept_all (b ∷ l) =
    by_outcome (eqb b (ch "\n"))
    (λ e. kept_newline 0 0 b l e ∙ ap (λ (m : Bytes). b ∷ m) (kept_all l))
    (λ e. kept_more 0 b l e ∙ ap (λ (m : Bytes). b ∷ m) (kept_all l))
