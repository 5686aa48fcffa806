-- A test `all` of every place below a number, which asks `test` of the last place first. Rests on the laws of choices.
use Prim.Native.Nat.{ℕ, zero, suc, ◌+◌, ◌<◌}
use mathlib.Core.Path.{◌≡◌, refl, sym, ◌∙◌}
use mathlib.Core.Bool.{Bool, true, false}
use mathlib.Core.Logic.{⊎_elim}
use native.Mathlib.Nat.{le_of_suc-le-suc, not-suc-le-zero, eq-or-lt_of_le}
use native.Mathlib.Numerals.{add-one}
use Rattle.lemmas.proofs.Cases.{by_bool, never}

module _ (test all : ℕ → Bool) (step : (k : ℕ) → all (suc k) ≡ elim (test k) [ true ↦ all k | false ↦ false ]) where
  -- where it passes, the last place passes and so do those before
  all_last : (n : ℕ) → all (suc n) ≡ true → (test n ≡ true) × (all n ≡ true)
  all_last n e =
      by_bool (λ t. elim t [ true ↦ all n | false ↦ false ] ≡ true → (t ≡ true) × (all n ≡ true)) (test n)
      (λ y a. (refl, a))
      (λ y a. never a)
      (sym (step n) ∙ e)

  -- where it passes, each place does
  pub all_each : (n : ℕ) → all n ≡ true → (k : ℕ) → k < n → test k ≡ true
  all_each zero e k h = absurd (not-suc-le-zero h)
  all_each (suc n) e k h =
      ⊎_elim (λ q. rw q (all_last n e).0) (λ l. all_each n (all_last n e).1 k l) (eq-or-lt_of_le (le_of_suc-le-suc h))

  -- where it passes and the next place does, it passes one further
  pub all_more : (n : ℕ) → all n ≡ true → test n ≡ true → all (n + 1) ≡ true
  all_more n a e = rw (add-one, step n, e) a

  -- one place that fails fails every test that reaches it
  pub all_fails : (n k : ℕ) → k < n → test k ≡ false → all n ≡ false
  all_fails n k h e =
      by_bool (λ t. t ≡ false) (all n) (λ a. never (sym e ∙ all_each n a k h)) (λ a. refl)
