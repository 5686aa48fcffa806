-- Second positions, by any weight: the place of a position is found again on its line, so that its second position is that of the same
-- place. Rests on the law that as many characters are skipped as were counted (crate `position`, Skips).
use Prim.Native.Nat.{ℕ, ◌+◌, ◌-◌, ◌≤◌}
use mathlib.Core.Path.{◌≡◌, sym, ap, ap₂, ◌∙◌}
use mathlib.Core.Bool.{true}
use native.Mathlib.Omega.{arith}
use lib.ListN.{length}
use Rattle.definition.specs.Basics.{Bytes}
use Rattle.definition.specs.Utf8.{Boundary}
use Rattle.definition.specs.Position.{Weight, one_each, count_chars, col_by}
use Rattle.definition.specs.State.{at_character}
use Rattle.definition.specs.Utf16.{utf16, with_column, skip_chars, place_of, second_pos}
use Rattle.definition.specs.declared.Pos.{Pos}
use Rattle.definition.specs.declared.State.{State}
use Rattle.utf8.proofs.Laws.{boundary_by_byte, first_bad_boundary, first_bad_legal}
use Rattle.position.proofs.Skips.{skip_within, count_skip_small, skip_back, utf16_light}
use Rattle.state.specs.Sound.{Stands}
use Rattle.laws_run.specs.Places.{On}

module _ {s : Bytes} {a : State} (h : Stands s a) where
  -- where a sound state stands the text is legal, so that its boundaries are the characters' first bytes and the end
  boundary : (i : ℕ) → at_character s i ≡ true → Boundary s i
  boundary i = (boundary_by_byte i ((first_bad_legal s).0 (omega (arith, (first_bad_boundary s).within, h.legal)))).1

  module _ {p : Pos} (o : On s a p) where
    -- The place of a position is found again on its line.
    pub place_is : place_of s a p ≡ o.place
    unfolding col_by
    place_is =
        let n : p.col - a.column ≡ count_chars one_each s a.bol (o.place - a.bol) = omega (arith, ap (λ (x : Pos). x.col) o.is) in
        ap (skip_chars s a.bol) n ∙ skip_back s (boundary a.bol h.sound.bol) (boundary o.place o.character) o.after

    -- So its second position is that of the same place,
    pub second_is : (w : Weight) (c : ℕ) → second_pos w s a c p ≡ record { line = a.line - 1; col = col_by w s (with_column a c) o.place }
    second_is w c =
        ap₂ (λ (l i : ℕ). record { line = l - 1; col = col_by w s (with_column a c) i }) (ap (λ (x : Pos). x.line) o.is) place_is

    -- and by the first run's weight and column it is the first run's, with its line one less.
    pub weight_one : second_pos one_each s a a.column p ≡ record { line = p.line - 1; col = p.col }
    weight_one = second_is one_each a.column ∙ ap (λ (x : Pos). record { line = x.line - 1; col = x.col }) (sym o.is)

-- A second column is at most the line start's and the bytes of the text, whatever position it is of.
pub second_small : (s : Bytes) (a : State) (c : ℕ) (p : Pos) → a.bol ≤ length s → (second_pos utf16 s a c p).col ≤ c + length s
unfolding col_by
second_small s a c p h =
    let n = p.col - a.column in
    omega (arith, count_skip_small s utf16 utf16_light a.bol n, skip_within s a.bol n h)
