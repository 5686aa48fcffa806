-- The choice among places put together from what each call answered. Rests on the definitions alone.
use Rattle.std.specs.Prelude.{Option, Some, None}
use Prim.Native.Nat.{ℕ}
use mathlib.Core.Path.{◌≡◌, sym, ap, ap₂, ◌∙◌}
use Rattle.definition.specs.Matchers.{◌then◌}
use Rattle.definition.specs.Select.{keep, found}
use Rattle.definition.specs.declared.Choice.{Choice}

-- The better of two choices that are known by equations.
pub kept : {b b' p p' r : Choice} → r ≡ keep b p → b ≡ b' → p ≡ p' → r ≡ keep b' p'
kept h x y = h ∙ ap₂ keep x y

-- The same of a place whose matcher's answer is known by one.
pub placed : (i k : ℕ) {b b' r : Choice} {m m' : Option ℕ} → r ≡ keep b (found i k 0 m) → b ≡ b' → m ≡ m' → r ≡ keep b' (found i k 0 m')
placed i k h x y = h ∙ ap₂ (λ (c : Choice) (n : Option ℕ). keep c (found i k 0 n)) x y

-- What stands after a word that was found,
pub then_yes : {m r : Option ℕ} {e : ℕ} (g : ℕ → Option ℕ) → m ≡ Some e → r ≡ g e → r ≡ (m then g)
then_yes g h q = q ∙ ap (λ (n : Option ℕ). n then g) (sym h)

-- and where it wasn't.
pub then_no : {m : Option ℕ} (g : ℕ → Option ℕ) → m ≡ None → None ≡ (m then g)
then_no g h = ap (λ (n : Option ℕ). n then g) (sym h)
