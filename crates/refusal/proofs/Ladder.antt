-- The definition's refusals, one by one, as pairs of number and offset. Rests on nothing but the definition.
use Prim.Native.Nat.{ℕ, ◌≤◌, ◌<◌}
use mathlib.Core.Path.{◌≡◌, ap}
use mathlib.Core.Bool.{true, false}
use borrow.Author.Tests.{lt-ltb, le-ltb, eq-eqb, ne_eqb}
use lib.ListN.{length}
use Rattle.definition.specs.Basics.{Bytes}
use Rattle.definition.specs.Text.{first_bad}
use Rattle.definition.specs.ClassFile.{class_check}
use Rattle.definition.specs.State.{sound}
use Rattle.definition.specs.Run.{text_too_long, name_too_long, refusal}
use Rattle.definition.specs.declared.State.{State}
use Rattle.refusal.specs.Refusing.{text_refusal}

module _ (s : Bytes) (st : State) where
  -- ill-formed UTF-8
  pub ill_formed : {b : ℕ} → b ≡ first_bad s → b < length s → ◌≡◌ {A = ℕ × ℕ} (8, b) (text_refusal s st)
  unfolding text_refusal
  ill_formed {b} e h = rw (text_refusal, ← e, lt-ltb b (length s) h) (ap (λ (o : ℕ). (8, o)) e)

  -- a sound state
  pub well : {b : ℕ} → b ≡ first_bad s → length s ≤ b → true ≡ sound s st → ◌≡◌ {A = ℕ × ℕ} (0, 0) (text_refusal s st)
  unfolding text_refusal
  well {b} e h q = rw (text_refusal, ← e, le-ltb b (length s) h, ← q)

  -- an unsound one
  pub unsound : {b : ℕ} → b ≡ first_bad s → length s ≤ b → false ≡ sound s st → ◌≡◌ {A = ℕ × ℕ} (9, 0) (text_refusal s st)
  unfolding text_refusal
  unsound {b} e h q = rw (text_refusal, ← e, le-ltb b (length s) h, ← q)

  module _ (name f : Bytes) where
    pub long_text : 1048576 < length s → ◌≡◌ {A = ℕ × ℕ} (6, 0) (refusal s name f st)
    unfolding refusal text_too_long
    long_text h = rw (refusal, text_too_long, lt-ltb 1048576 (length s) h)

    module _ (short : length s ≤ 1048576) where
      pub long_name : 4096 < length name → ◌≡◌ {A = ℕ × ℕ} (7, 0) (refusal s name f st)
      unfolding refusal text_too_long name_too_long
      long_name h = rw (refusal, text_too_long, le-ltb 1048576 (length s) short, name_too_long, lt-ltb 4096 (length name) h)

      module _ (fits : length name ≤ 4096) where
        pub bad_classes : {n : ℕ} → n ≡ class_check f → (n ≡ 0 → ⊥) → ◌≡◌ {A = ℕ × ℕ} (n, 0) (refusal s name f st)
        unfolding refusal text_too_long name_too_long
        bad_classes {n} e h =
            rw (refusal, text_too_long, le-ltb 1048576 (length s) short, name_too_long, le-ltb 4096 (length name) fits, ← e, ne_eqb n 0 h) (ap (λ (m : ℕ). (m, 0)) e)

        pub good_classes : class_check f ≡ 0 → text_refusal s st ≡ refusal s name f st
        unfolding refusal text_too_long name_too_long text_refusal
        good_classes h =
            rw (refusal, text_too_long, le-ltb 1048576 (length s) short, name_too_long, le-ltb 4096 (length name) fits, eq-eqb (class_check f) 0 h)
