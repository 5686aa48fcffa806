-- The second run's refusals, one by one, as pairs of number and offset. Rests on nothing but the definition.
use Prim.Native.Nat.{ℕ}
use mathlib.Core.Path.{◌≡◌}
use mathlib.Core.Bool.{Bool, true, false}
use borrow.Author.Tests.{eq-eqb, ne_eqb}
use lib.Dec.{eqb}
use Rattle.definition.specs.Basics.{Bytes}
use Rattle.definition.specs.State.{sound}
use Rattle.definition.specs.Run.{refusal}
use Rattle.definition.specs.Utf16.{by_second, line_zero, utf16_refusal}
use Rattle.definition.specs.declared.Utf16State.{Utf16State}

-- what the first run refuses
pub first_refused : (s name f : Bytes) (g : Utf16State) {n o : ℕ} → ◌≡◌ {A = ℕ × ℕ} (n, o) (refusal s name f g.first) → (n ≡ 0 → ⊥)
    → ◌≡◌ {A = ℕ × ℕ} (n, o) (utf16_refusal s name f g)
unfolding utf16_refusal
first_refused s name f g {n} e h = rw (utf16_refusal, ← e, ne_eqb n 0 h) e

-- the first run refuses nothing, and b says whether the second columns are sound
pub record Tested (s name f : Bytes) (g : Utf16State) (b : Bool) : Type 0 where
  pub first : (refusal s name f g.first).0 ≡ 0
  pub second : b ≡ sound s (by_second g)

module _ (s name f : Bytes) (g : Utf16State) where
  -- a second column that isn't sound
  pub second_unsound : {b : Bool} → Tested s name f g b → b ≡ false → ◌≡◌ {A = ℕ × ℕ} (9, 0) (utf16_refusal s name f g)
  unfolding utf16_refusal
  second_unsound t q = rw (utf16_refusal, eq-eqb (refusal s name f g.first).0 0 t.first, ← t.second, q)

  -- a line 0
  pub line_is_zero : {b : Bool} → Tested s name f g b → b ≡ true → true ≡ line_zero g → ◌≡◌ {A = ℕ × ℕ} (10, 0) (utf16_refusal s name f g)
  unfolding utf16_refusal
  line_is_zero t q l = rw (utf16_refusal, eq-eqb (refusal s name f g.first).0 0 t.first, ← t.second, q, ← l)

  -- none
  pub nothing_refused : {b : Bool} → Tested s name f g b → b ≡ true → false ≡ line_zero g → ◌≡◌ {A = ℕ × ℕ} (0, 0) (utf16_refusal s name f g)
  unfolding utf16_refusal
  nothing_refused t q l = rw (utf16_refusal, eq-eqb (refusal s name f g.first).0 0 t.first, ← t.second, q, ← l)

module _ (g : Utf16State) where
  -- the state's line
  pub state_line_zero : g.first.line ≡ 0 → true ≡ line_zero g
  unfolding line_zero
  state_line_zero h = rw (line_zero, eq-eqb g.first.line 0 h)

  module _ (n : g.first.line ≡ 0 → ⊥) where
    -- in a comment, the line where it began
    pub comment_line_zero : g.first.mode ≡ 1 → eqb g.first.comment.line 0 ≡ line_zero g
    unfolding line_zero
    comment_line_zero m = rw (line_zero, ne_eqb g.first.line 0 n, eq-eqb g.first.mode 1 m)

    -- neither
    pub no_line_zero : (g.first.mode ≡ 1 → ⊥) → false ≡ line_zero g
    unfolding line_zero
    no_line_zero m = rw (line_zero, ne_eqb g.first.line 0 n, ne_eqb g.first.mode 1 m)
