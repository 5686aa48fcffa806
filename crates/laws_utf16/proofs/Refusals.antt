-- What a second run that isn't refused was given, and that it is refused otherwise. Rests on the same of the first run (crate `laws_run`,
-- Refusals) and on the meaning of the soundness test (crate `state`).
use Prim.Native.Nat.{ℕ, ◌≤◌}
use mathlib.Core.Path.{◌≡◌, refl, sym, ◌∙◌}
use mathlib.Core.Bool.{Bool, false, ◌&&◌}
use native.Mathlib.Omega.{arith}
use lib.Dec.{ltb, eqb}
use lib.ListN.{length}
use borrow.Author.Tests.{eq-eqb, ne_eqb, eqb-true, eqb-false}
use Rattle.definition.specs.Basics.{Bytes}
use Rattle.definition.specs.Text.{first_bad}
use Rattle.definition.specs.ClassFile.{classes_in_file, bad_class_length, laid_out, ranges_right, class_check}
use Rattle.definition.specs.State.{sound}
use Rattle.definition.specs.Run.{text_too_long, name_too_long, refusal}
use Rattle.definition.specs.Utf16.{by_second, line_zero, utf16_refusal}
use Rattle.definition.specs.declared.State.{State}
use Rattle.definition.specs.declared.Utf16State.{Utf16State}
use Rattle.lemmas.proofs.Cases.{never, by_bool, by_equal, by_test, by_if}
use Rattle.state.proofs.Soundness.{sound_means, sound_is}
use Rattle.laws_run.specs.Accepted.{Accepted}
use Rattle.laws_run.proofs.Refusals.{accepted_run, run_stands}
use Rattle.laws_utf16.specs.Accepted.{Utf16Taken, Utf16Stands}

module _ (g : Utf16State) where
  -- the test for refusal 10 fails where the line isn't 0, and in mode 1 the comment start's isn't
  lines_mean : line_zero g ≡ false → (1 ≤ g.first.line) × (g.first.mode ≡ 1 → 1 ≤ g.first.comment.line)
  unfolding line_zero
  lines_mean e =
      let st = g.first in
      let some : st.line ≡ 0 → ⊥ = λ z. never (sym e ∙ rw (line_zero, eq-eqb st.line 0 z)) in (
        omega arith,
        λ m.
            by_equal st.comment.line 0
            (λ z. never (sym e ∙ rw (line_zero, ne_eqb st.line 0 some, eq-eqb st.mode 1 m, eq-eqb st.comment.line 0 z))) (λ n. omega arith),
      )

  lines_are : 1 ≤ g.first.line → (g.first.mode ≡ 1 → 1 ≤ g.first.comment.line) → line_zero g ≡ false
  unfolding line_zero
  lines_are h k =
      let st = g.first in
      rw (line_zero, ne_eqb st.line 0 (λ z. absurd (omega arith)))
      (by_bool (λ (t : Bool). t && eqb st.comment.line 0 ≡ false) (eqb st.mode 1)
      (λ m. let l = k (eqb-true st.mode 1 m) in ne_eqb st.comment.line 0 (λ z. absurd (omega arith))) (λ _. refl))

module _ (s name f : Bytes) where
  module _ (g : Utf16State) where
    -- A run that isn't refused has passed the three tests,
    pub refusal_taken : (utf16_refusal s name f g).0 ≡ 0 → Utf16Taken s name f g
    unfolding utf16_refusal
    refusal_taken =
        by_test P (eqb (refusal s name f g.first).0 0)
        (λ first. by_if P (sound s (by_second g))
        (λ second. by_if P (line_zero g) (λ _ e. absurd (omega arith))
        (λ lines _. record { first = eqb-true (refusal s name f g.first).0 0 first; second = second; lines = lines }))
        (λ _ e. absurd (omega arith)))
        (λ n e. absurd (eqb-false (refusal s name f g.first).0 0 n e))
      where
        P : ℕ × ℕ → Type 0
        P x = x.0 ≡ 0 → Utf16Taken s name f g

    -- and one that passes them isn't refused.
    taken_refusal : Utf16Taken s name f g → (utf16_refusal s name f g).0 ≡ 0
    unfolding utf16_refusal
    taken_refusal t = simp (eq-eqb (refusal s name f g.first).0 0 t.first, t.second, t.lines, utf16_refusal)

    -- It was given a state of which all that they say is so,
    pub taken_stands : (utf16_refusal s name f g).0 ≡ 0 → Utf16Stands s g
    taken_stands e =
        let t = refusal_taken e in
        let l = lines_mean g t.lines in
        record { first = run_stands s name f g.first t.first; second = sound_means s (by_second g) t.second; line = l.0; comment_line = l.1 }

    -- and one that is given such a state isn't refused, if its text, name and class file are those of a run that isn't.
    pub stands_taken : {st : State} → Accepted s name f st → Utf16Stands s g → (utf16_refusal s name f g).0 ≡ 0
    stands_taken a h =
        taken_refusal record {
          first = accepted_run s name f g.first record { named = a.named; classes = a.classes; stands = h.first };
          second = sound_is s (by_second g) h.second;
          lines = lines_are g h.line h.comment_line;
        }

  -- ---- refusal 10

  -- a class file is refused with 3, 4 or 5
  classes_small : class_check f ≤ 5
  unfolding class_check
  classes_small =
      by_test P (bad_class_length (length f)) (λ _. omega arith) λ _.
      by_test P (laid_out f) (λ _. by_test P (ranges_right f classes_in_file) (λ _. omega arith) (λ _. omega arith)) (λ _. omega arith)
    where
      P : ℕ → Type 0
      P n = n ≤ 5

  -- and the first run with 9 at most
  refusal_small : (st : State) → (refusal s name f st).0 ≤ 9
  unfolding refusal
  refusal_small st =
      by_test P (text_too_long (length s)) (λ _. omega arith) λ _.
      by_test P (name_too_long (length name)) (λ _. omega arith) λ _.
      by_test P (eqb (class_check f) 0)
      (λ _. by_test P (ltb (first_bad s) (length s)) (λ _. omega arith) λ _. by_if P (sound s st) (λ _. omega arith) (λ _. omega arith))
      (λ _. omega (arith, classes_small))
    where
      P : ℕ × ℕ → Type 0
      P x = x.0 ≤ 9

  -- So the first run is never refused with 10.
  pub first_never_ten : (st : State) → (refusal s name f st).0 ≡ 10 → ⊥
  first_never_ten st e = absurd (omega (arith, refusal_small st))
