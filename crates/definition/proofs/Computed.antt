-- Two lists are equal where a test of them computes to true. A long table is shown so: to compute one test over it takes the checker a
-- small part of the time that it takes to compare the table's two sides as terms. Rests on nothing but the definition.
use Prim.Native.Nat.{ℕ}
use mathlib.Core.Path.{◌≡◌, refl, ap₂}
use mathlib.Core.Bool.{Bool, true, false, ◌&&◌, false≢true}
use mathlib.Core.List.{List, [], ◌∷◌}
use lib.Dec.{eqb}
use borrow.Author.Tests.{eqb-true}

-- both tests pass
pub both : (a b : Bool) → a && b ≡ true → (a ≡ true) × (b ≡ true)
both true b e = (refl, e)
both false b e = absurd (false≢true e)

-- two lists are the same by a test of their elements
abbrev pub same_by : {A : Type 0} → (A → A → Bool) → List A → List A → Bool
same_by t [] [] = true
same_by t [] (y ∷ b) = false
same_by t (x ∷ a) [] = false
same_by t (x ∷ a) (y ∷ b) = t x y && same_by t a b

-- A test of the elements that shows them equal shows the lists equal.
pub equal_by : {A : Type 0} (t : A → A → Bool) → ((x y : A) → t x y ≡ true → x ≡ y) → (a b : List A) → same_by t a b ≡ true → a ≡ b
equal_by t h [] [] e = refl
equal_by t h [] (y ∷ b) e = absurd (false≢true e)
equal_by t h (x ∷ a) [] e = absurd (false≢true e)
equal_by {A} t h (x ∷ a) (y ∷ b) e =
    let p = both (t x y) (same_by t a b) e in
    ap₂ (λ (z : A) (l : List A). z ∷ l) (h x y p.0) (equal_by t h a b p.1)

-- Rows of numbers.
pub equal_rows : (a b : List (List ℕ)) → same_by (same_by eqb) a b ≡ true → a ≡ b
equal_rows = equal_by (same_by eqb) (equal_by eqb eqb-true)
