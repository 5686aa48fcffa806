-- What a run that isn't refused has been given, and that it is refused otherwise. Rests on the meaning of the soundness test (crate
-- `state`).
use Prim.Native.Nat.{ℕ}
use mathlib.Core.Path.{◌≡◌, refl, sym, ◌∙◌}
use native.Mathlib.Omega.{arith}
use lib.Dec.{eqb}
use lib.ListN.{length}
use borrow.Author.Tests.{eqb-true, eqb-false}
use Rattle.definition.specs.Basics.{Bytes}
use Rattle.definition.specs.Text.{first_bad}
use Rattle.definition.specs.ClassFile.{class_check}
use Rattle.definition.specs.State.{sound}
use Rattle.definition.specs.Run.{text_too_long, name_too_long, refusal}
use Rattle.definition.specs.declared.State.{State}
use Rattle.lemmas.proofs.Cases.{never, by_test, by_lt, by_if}
use Rattle.state.specs.Sound.{Stands}
use Rattle.state.proofs.Soundness.{sound_means, sound_is}
use Rattle.laws_run.specs.Accepted.{Accepted}

module _ (s name f : Bytes) (st : State) where
  -- a run that isn't refused was given that
  pub run_accepted : (refusal s name f st).0 ≡ 0 → Accepted s name f st
  unfolding refusal text_too_long name_too_long
  run_accepted =
      by_lt P 1048576 (length s) (λ _ e. absurd (omega arith)) λ short.
      by_lt P 4096 (length name) (λ _ e. absurd (omega arith)) λ named.
      by_test P (eqb (class_check f) 0)
      (λ classes. by_lt P (first_bad s) (length s) (λ _ e. absurd (omega arith)) λ legal.
      by_if P (sound s st)
      (λ t _. record {
        named = named;
        classes = eqb-true (class_check f) 0 classes;
        stands = record { short = short; legal = legal; sound = sound_means s st t };
      })
      (λ _ e. absurd (omega arith)))
      (λ t e. absurd (eqb-false (class_check f) 0 t e))
    where
      P : ℕ × ℕ → Type 0
      P x = x.0 ≡ 0 → Accepted s name f st

  -- a run that was given that isn't refused
  pub accepted_run : Accepted s name f st → (refusal s name f st).0 ≡ 0
  unfolding refusal text_too_long name_too_long
  accepted_run a =
      by_lt P 1048576 (length s) (λ h. absurd (omega (arith, a.stands.short))) λ _.
      by_lt P 4096 (length name) (λ h. absurd (omega (arith, a.named))) λ _.
      by_test P (eqb (class_check f) 0)
      (λ _. by_lt P (first_bad s) (length s) (λ h. absurd (omega (arith, a.stands.legal))) λ _.
      by_if P (sound s st) (λ _. refl) (λ n. never (sym n ∙ sound_is s st a.stands.sound)))
      (λ t. absurd (eqb-false (class_check f) 0 t a.classes))
    where
      P : ℕ × ℕ → Type 0
      P x = x.0 ≡ 0

  -- where it stands
  pub run_stands : (refusal s name f st).0 ≡ 0 → Stands s st
  run_stands e = (run_accepted e).stands
