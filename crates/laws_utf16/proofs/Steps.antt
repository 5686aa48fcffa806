-- Steps of the second run one after another, by any weight: they are as many as the first run's from the same nine numbers, with the same
-- payloads, and come to the same nine numbers. Rests on nothing but the definition.
use Prim.Native.Nat.{ℕ, zero, suc, ◌+◌, ◌<◌}
use mathlib.Core.Path.{◌≡◌, refl, sym, ap, ap₂, subst, ◌∙◌}
use mathlib.Core.List.{List, [], ◌∷◌, ◌++◌}
use native.Mathlib.Nat.{zero-add, suc-add}
use native.Mathlib.Omega.{arith}
use lib.ListN.{length}
use Rattle.definition.specs.Basics.{Bytes}
use Rattle.definition.specs.Position.{Weight}
use Rattle.definition.specs.Item.{Step}
use Rattle.definition.specs.Token.{step}
use Rattle.definition.specs.Items.{Steps, payloads_of}
use Rattle.definition.specs.Utf16.{given_at, second, second_step, second_next, second_steps, second_after}
use Rattle.definition.specs.declared.State.{State}
use Rattle.definition.specs.declared.Utf16State.{Utf16State}
use Rattle.lemmas.proofs.Each.{Each, none_left, ◌⨾◌}
use Rattle.laws_run.proofs.Buffers.{Measured}
use Rattle.laws_utf16.proofs.Records.{same_measured}

module _ (w : Weight) (s name f : Bytes) where
  -- ---- some steps and then others

  pub second_steps_add : (n m : ℕ) (g : Utf16State)
      → second_steps w s name f (n + m) g ≡ second_steps w s name f n g ++ second_steps w s name f m (second_after w s name f n g)
  unfolding second_steps second_after
  second_steps_add zero m g = ap (λ (k : ℕ). second_steps w s name f k g) (zero-add m)
  second_steps_add (suc n) m g =
      ap (λ (k : ℕ). second_steps w s name f k g) (suc-add n m)
      ∙ ap (λ (ts : List Step). second_step w s name f g ∷ ts) (second_steps_add n m (second_next w s name f g))

  second_after_add : (n m : ℕ) (g : Utf16State) → second_after w s name f (n + m) g ≡ second_after w s name f m (second_after w s name f n g)
  unfolding second_after
  second_after_add zero m g = ap (λ (k : ℕ). second_after w s name f k g) (zero-add m)
  second_after_add (suc n) m g = ap (λ (k : ℕ). second_after w s name f k g) (suc-add n m) ∙ second_after_add n m (second_next w s name f g)

  -- one step more
  pub second_steps_snoc : (n : ℕ) (g : Utf16State)
      → second_steps w s name f (n + 1) g ≡ second_steps w s name f n g ++ (second_step w s name f (second_after w s name f n g) ∷ [])
  unfolding second_steps
  second_steps_snoc n g = second_steps_add n 1 g

  pub second_after_snoc : (n : ℕ) (g : Utf16State) → second_after w s name f (n + 1) g ≡ second_next w s name f (second_after w s name f n g)
  unfolding second_after
  second_after_snoc n g = second_after_add n 1 g

  pub second_steps_length : (n : ℕ) (g : Utf16State) → length (second_steps w s name f n g) ≡ n
  unfolding second_steps
  second_steps_length zero g = refl
  second_steps_length (suc n) g = ap suc (second_steps_length n (second_next w s name f g))

  -- ---- beside the first run's

  -- the others of some steps, from the state after the first of them
  pub rest_of_steps : (g : Utf16State) (t : Step) (ts : List Step) (b : State) → t ≡ step s name f g.first → Steps s name f t.next ts b
      → Steps s name f (second_next w s name f g).first ts b
  unfolding second_next second_step
  rest_of_steps g t ts b e rest = subst (λ (u : Step). Steps s name f u.next ts b) e rest

  pub second_after_first : (g : Utf16State) (ts : List Step) (b : State) → Steps s name f g.first ts b → (second_after w s name f (length ts) g).first ≡ b
  unfolding second_after
  second_after_first g [] b e = e
  second_after_first g (t ∷ ts) b (m, e, rest) = second_after_first (second_next w s name f g) ts b (rest_of_steps g t ts b e rest)

  -- none of them is given from a state that has ended
  pub second_going : (g : Utf16State) (ts : List Step) (b : State) → Steps s name f g.first ts b
      → (k : ℕ) → k < length ts → (second_after w s name f k g).first.mode ≡ 2 → ⊥
  unfolding second_after
  second_going g [] b e k h = absurd (omega arith)
  second_going g (t ∷ ts) b (m, e, rest) zero h = m
  second_going g (t ∷ ts) b (m, e, rest) (suc k) h = second_going (second_next w s name f g) ts b (rest_of_steps g t ts b e rest) k (omega arith)

  pub second_payloads : (g : Utf16State) (ts : List Step) (b : State) → Steps s name f g.first ts b
      → payloads_of (second_steps w s name f (length ts) g) ≡ payloads_of ts
  unfolding second_steps second_step payloads_of
  second_payloads g [] b e = refl
  second_payloads g (t ∷ ts) b (m, e, rest) =
      ap₂ (λ (p q : Bytes). p ++ q) (ap (λ (u : Step). u.payload) (sym e)) (second_payloads (second_next w s name f g) ts b (rest_of_steps g t ts b e rest))

  -- its record says how long its payload is
  step_measured : (g : Utf16State) → Measured (step s name f g.first) → Measured (second_step w s name f g)
  unfolding second_step
  step_measured g = let t = step s name f g.first in same_measured _ (second w s g (given_at s name f g.first) t.next) t

  pub second_measured : (g : Utf16State) (ts : List Step) (b : State) → Steps s name f g.first ts b → Each Measured ts
      → Each Measured (second_steps w s name f (length ts) g)
  unfolding second_steps
  second_measured g [] b e none_left = none_left
  second_measured g (t ∷ ts) b (m, e, rest) (k ⨾ ks) =
      step_measured g (subst Measured e k) ⨾ second_measured (second_next w s name f g) ts b (rest_of_steps g t ts b e rest) ks
