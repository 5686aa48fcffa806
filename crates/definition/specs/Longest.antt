-- Demand 3, at one position: a choice is right.
use Rattle.std.specs.Prelude.{ℕ, ◌≤◌, ◌<◌, ◌≡◌, ◌↔◌}
use Rattle.definition.specs.Basics.{Bytes}
use Rattle.definition.specs.Regex.{Permits}
use Rattle.definition.specs.Patterns.{pattern}
use Rattle.definition.specs.declared.Choice.{Choice}

-- under the class file f, place k permits the part of the text s from i up to e
abbrev pub Permitted : Bytes → Bytes → ℕ → ℕ → ℕ → Type 0
Permitted s f k i e = Permits (pattern f k) s i e

pub record Longest (s f : Bytes) (i : ℕ) (c : Choice) : Type 0 where
  pub place : c.place ≤ 50
  -- "unexpected char" exactly when no place permits a part of one byte or more
  pub nothing : c.place ≡ 0 ↔ ((k e : ℕ) → i < e → Permitted s f k i e → ⊥)
  -- otherwise the part has a byte or more, and its place permits it
  pub ahead : (c.place ≡ 0 → ⊥) → i < c.end
  pub fits : (c.place ≡ 0 → ⊥) → Permitted s f c.place i c.end
  -- every part that any place permits there is at most as long
  pub longest : (k e : ℕ) → Permitted s f k i e → e ≤ c.end
  -- no earlier place permits one as long
  pub first : (k : ℕ) → k < c.place → Permitted s f k i c.end → ⊥
