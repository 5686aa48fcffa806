-- The second columns of lines and of comments, and where an item begins, as the code tells them. Rests on nothing but the definition.
use Rattle.std.specs.Prelude.{if◌then◌else◌, None, Some}
use Prim.Native.Nat.{ℕ}
use mathlib.Core.Path.{◌≡◌}
use borrow.Author.Tests.{eq-eqb, ne_eqb}
use lib.Dec.{eqb}
use Rattle.definition.specs.declared.State.{State}
use Rattle.definition.specs.declared.Utf16State.{Utf16State}
use Rattle.utf16_positions.specs.Places.{line_of, line_in}
use Rattle.utf16_turn.specs.Turning.{begun_in}

module _ (g : Utf16State) where
  -- the line of a state: g's, or a later one
  pub line_same : (a : State) → a.line ≡ g.first.line → line_of a g.column ≡ line_in g a
  line_same a e = rw (eq-eqb a.line g.first.line e)

  pub line_later : (a : State) → (a.line ≡ g.first.line → ⊥) → line_of a 0 ≡ line_in g a
  line_later a n = rw (ne_eqb a.line g.first.line n)

  -- where an item begins
  pub begun_carried : g.first.mode ≡ 1 → Some g.comment ≡ begun_in g
  unfolding begun_in
  begun_carried m = rw (begun_in, eq-eqb g.first.mode 1 m)

  pub begun_here : (g.first.mode ≡ 1 → ⊥) → None ≡ begun_in g
  unfolding begun_in
  begun_here n = rw (begun_in, ne_eqb g.first.mode 1 n)

-- the column of a comment's start
pub comment_goes_on : (mode start : ℕ) → mode ≡ 1 → start ≡ (if eqb mode 1 then start else 0)
comment_goes_on mode start m = rw (eq-eqb mode 1 m)

pub comment_over : (mode start : ℕ) → (mode ≡ 1 → ⊥) → 0 ≡ (if eqb mode 1 then start else 0)
comment_over mode start n = rw (ne_eqb mode 1 n)
