-- Walks by whole characters and the boundaries of a text are the same thing: a walk from a boundary comes to boundaries only, and every
-- boundary is walked to from the start. Rests on the laws of UTF-8 (crate `utf8`).
use Prim.Native.Nat.{ℕ, ◌+◌, ◌≤◌}
use mathlib.Core.Path.{◌≡◌, sym, subst, ◌∙◌}
use native.Mathlib.Omega.{arith}
use Rattle.definition.specs.Basics.{Bytes}
use Rattle.definition.specs.Utf8.{Boundary, sequence_at}
use Rattle.definition.specs.declared.Sequence.TheVariants.{Char}
use Rattle.lemmas.proofs.Cases.{by_order}
use Rattle.utf8.proofs.Character.{char_read, read_char}
use Rattle.utf8.proofs.Runs.{by_chars}
use Rattle.utf8.proofs.Boundaries.{boundary_next, char_before}
use Rattle.utf8.proofs.Reading.{NoChar}
use Rattle.laws_progress.proofs.Walks.{Walk, here, on}

-- a walk from a boundary comes to a boundary
pub walk_boundary : {s : Bytes} {i e : ℕ} → Walk s i e → Boundary s i → Boundary s e
walk_boundary {s} (here q) b = subst (Boundary s) q b
walk_boundary (on c w q u) b = walk_boundary u (boundary_next b (char_read q))

-- from a boundary every later one is walked to
pub boundary_walk : {s : Bytes} {i e : ℕ} → Boundary s i → Boundary s e → i ≤ e → Walk s i e
boundary_walk {s} {i} {e} b d h = by_chars s (λ j. Boundary s j → j ≤ e → Walk s j e) none some i b h
  where
    none : (j : ℕ) → NoChar (sequence_at s j) → Boundary s j → j ≤ e → Walk s j e
    none j n b h =
        by_order j e
        (λ l. let a = char_before b d l in absurd (subst NoChar (read_char a.stands) n))
        (λ l. here (omega arith))

    some : (j c w : ℕ) → sequence_at s j ≡ Char c w → (Boundary s (j + w) → j + w ≤ e → Walk s (j + w) e) → Boundary s j → j ≤ e → Walk s j e
    some j c w q ih b h =
        by_order j e
        (λ l.
        let a = char_before b d l in
        let r : Char a.code a.width ≡ Char c w = sym (read_char a.stands) ∙ q in
        let k : a.width ≡ w = cc in
        on c w q (ih (boundary_next b (char_read q)) (omega (arith, a.ends))))
        (λ l. here (omega arith))
