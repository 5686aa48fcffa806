-- The steps of a text from a state, one by one: how much fuel there is doesn't matter, and what some steps leave is the rest. Rests on what
-- every step keeps (Steps): each leaves less to read.
use Prim.Native.Nat.{ℕ, zero, suc, ◌≤◌, ◌<◌}
use mathlib.Core.Path.{◌≡◌, refl, sym, ap, subst, ◌∙◌}
use mathlib.Core.List.{List, [], ◌∷◌, ◌++◌}
use native.Mathlib.Omega.{arith}
use lib.Dec.{eqb}
use lib.ListN.{length}
use borrow.Author.Tests.{eq-eqb, ne_eqb}
use Rattle.definition.specs.Basics.{Bytes}
use Rattle.definition.specs.Item.{Step}
use Rattle.definition.specs.Token.{step}
use Rattle.definition.specs.Run.{most_items}
use Rattle.definition.specs.declared.State.{State}
use Rattle.lemmas.proofs.Cases.{by_equal, by_test}
use Rattle.laws_run.specs.Left.{left, Opened}
use Rattle.laws_run.proofs.FormLaws.{awake_small, awake_yet}
use Rattle.laws_run.proofs.Steps.{step_kept}
use Rattle.definition.specs.Items.{steps, steps_of, Steps}

module _ (s name f : Bytes) where
  -- before the end each step leaves less
  pub step_left : (st : State) → Opened st → (st.mode ≡ 2 → ⊥) → (Opened (step s name f st).next) × (left s (step s name f st).next < left s st)
  step_left st o n =
      let g = (step_kept s name f st o n).gives in
      (g.opened o, omega (arith, g.less, awake_yet st.mode n))

  -- at the end there are none
  steps_end : (n : ℕ) (st : State) → st.mode ≡ 2 → steps s name f n st ≡ []
  unfolding steps
  steps_end zero st m = refl
  steps_end (suc n) st m = simp (eq-eqb st.mode 2 m, steps)

  -- before it the next step is the first
  steps_on : (n : ℕ) (st : State) → (st.mode ≡ 2 → ⊥) → steps s name f (suc n) st ≡ step s name f st ∷ steps s name f n (step s name f st).next
  unfolding steps
  steps_on n st m = simp (ne_eqb st.mode 2 m, steps)

  -- with fuel enough more changes nothing
  steps_same : (n m : ℕ) (st : State) → Opened st → left s st < n → left s st < m → steps s name f n st ≡ steps s name f m st
  steps_same zero m st o h k = absurd (omega arith)
  steps_same (suc n) zero st o h k = absurd (omega arith)
  steps_same (suc n) (suc m) st o h k = go (steps_same n m)
    where
      go : ((b : State) → Opened b → left s b < n → left s b < m → steps s name f n b ≡ steps s name f m b) → steps s name f (suc n) st ≡ steps s name f (suc m) st
      go same =
          by_equal st.mode 2 (λ e. steps_end (suc n) st e ∙ sym (steps_end (suc m) st e))
          (λ e.
          let l = step_left st o e in
          steps_on n st e
          ∙ ap (λ (ts : List Step). step s name f st ∷ ts) (same (step s name f st).next l.0 (omega (arith, l.1)) (omega (arith, l.1)))
          ∙ sym (steps_on m st e))

  -- there are never more than the fuel
  steps_few : (n : ℕ) (st : State) → length (steps s name f n st) ≤ n
  unfolding steps
  steps_few zero st = omega arith
  steps_few (suc n) st =
      by_test (λ (ts : List Step). length ts ≤ suc n) (eqb st.mode 2) (λ _. omega arith) (λ _. omega (arith, steps_few n (step s name f st).next))

  -- So there are not more than a run's turns.
  pub steps_of_few : (st : State) → length (steps_of s name f st) ≤ most_items s st
  unfolding steps_of
  steps_of_few st = steps_few (most_items s st) st

  -- At the end no items are left.
  pub steps_of_end : (st : State) → st.mode ≡ 2 → steps_of s name f st ≡ []
  unfolding steps_of
  steps_of_end st m = steps_end _ st m

  -- Before it the first is the next step, and the others are those of the state after it.
  pub steps_of_on : (st : State) → Opened st → (st.mode ≡ 2 → ⊥) → steps_of s name f st ≡ step s name f st ∷ steps_of s name f (step s name f st).next
  unfolding steps_of
  steps_of_on st o m =
      let b = (step s name f st).next in
      let l = step_left st o m in
      steps_same _ (suc (left s st)) st o (omega (arith, awake_small st.mode)) (omega arith)
      ∙ steps_on (left s st) st m
      ∙ ap (λ (ts : List Step). step s name f st ∷ ts) (steps_same (left s st) _ b l.0 l.1 (omega (arith, awake_small b.mode)))

  -- After some steps the others are those of the state that they end in.
  pub steps_then : (st : State) (ts : List Step) (b : State) → Opened st → Steps s name f st ts b → steps_of s name f st ≡ ts ++ steps_of s name f b
  steps_then st [] b o e = ap (steps_of s name f) e
  steps_then st (t ∷ ts) b o (m, e, rest) =
      let l = step_left st o m in
      let q : Opened t.next = subst (λ (u : Step). Opened u.next) (sym e) l.0 in
      steps_of_on st o m ∙ subst (λ (u : Step). u ∷ steps_of s name f u.next ≡ t ∷ (ts ++ steps_of s name f b)) e
      (ap (λ (us : List Step). t ∷ us) (steps_then t.next ts b q rest))

  -- one step more
  pub steps_snoc : (st : State) (ts : List Step) (b : State) → Steps s name f st ts b → (b.mode ≡ 2 → ⊥)
      → Steps s name f st (ts ++ (step s name f b ∷ [])) (step s name f b).next
  steps_snoc st [] b e m = (rw e m, ap (step s name f) (sym e), refl)
  steps_snoc st (t ∷ ts) b (n, e, rest) m = (n, e, steps_snoc t.next ts b rest m)
