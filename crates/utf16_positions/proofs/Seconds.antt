-- The positions of this crate are the definition's: those of a step from the second run's state g, whose item is given at a, and after
-- which the state is n. Rests on nothing but the two definitions.
use Rattle.std.specs.Prelude.{if◌then◌else◌, Option, None, Some}
use Prim.Native.Nat.{ℕ, ◌-◌}
use mathlib.Core.Path.{◌≡◌, refl, ap₂, fun_ext, ◌∙◌}
use mathlib.Core.Bool.{Bool, true, false}
use mathlib.Core.List.{List}
use lib.Dec.{eqb}
use borrow.Author.Tests.{eq-eqb, ne_eqb}
use Rattle.definition.specs.Basics.{Bytes}
use Rattle.definition.specs.Position.{col_by}
use Rattle.definition.specs.Item.{words}
use Rattle.definition.specs.Utf16.{utf16, second_pos, column_in, second, second_start, second_item}
use Rattle.definition.specs.declared.Pos.{Pos}
use Rattle.definition.specs.declared.State.{State}
use Rattle.definition.specs.declared.Item.{Item}
use Rattle.definition.specs.declared.Utf16State.{Utf16State}
use Rattle.utf16_positions.specs.declared.LineStart.{LineStart}
use Rattle.utf16_positions.specs.declared.Tally.{Tally}
use Rattle.utf16_positions.specs.Places.{first_place, place_at, line_in, second_by, begun_at, Recounted}

module _ (s : Bytes) (g : Utf16State) (a n : State) where
  -- a position
  pub second_is : (p : Pos) → second_by s (line_in g a) (line_in g n) p ≡ second utf16 s g a n p
  unfolding second_by second col_by
  second_is p = go (eqb p.line a.line)
    where
      by_line : LineStart → Pos
      by_line l = record { line = p.line - 1; col = (place_at utf16 s (first_place l) p.col).units }

      go : (t : Bool) → by_line (if t then line_in g a else line_in g n) ≡ (let b = if t then a else n in second_pos utf16 s b (column_in g b) p)
      go true = refl
      go false = refl

  -- where an item begins, outside a comment
  pub here_is : (p : Pos) → (g.first.mode ≡ 1 → ⊥) → begun_at s (line_in g a) (line_in g n) None p ≡ second_start utf16 s g a n p
  unfolding second_start
  here_is p h = rw (ne_eqb g.first.mode 1 h, second_start) (second_is p)

  -- and in one
  pub carried_is : (p : Pos) → g.first.mode ≡ 1 → begun_at s (line_in g a) (line_in g n) (Some g.comment) p ≡ second_start utf16 s g a n p
  unfolding second_start
  carried_is p h = rw (eq-eqb g.first.mode 1 h, second_start)

  -- so a record counted again is the record of the item with its second positions
  pub item_is : (begun : Option ℕ) → ((p : Pos) → begun_at s (line_in g a) (line_in g n) begun p ≡ second_start utf16 s g a n p)
      → {r r' : List ℕ} {t : Tally} → Recounted s (line_in g a) (line_in g n) begun r t r'
      → (x : Item) (used : ℕ) → r ≡ words x used → r' ≡ words (second_item (second_start utf16 s g a n x.sp) (second utf16 s g a n) x) used
  item_is begun h c x used e = c.is x used e ∙ ap₂ (λ (p : Pos) (q : Pos → Pos). words (second_item p q x) used) (h x.sp) (fun_ext second_is)
