-- By cases on the test or on the match that a definition goes by, keeping what the case says, tests decided by what is known of
-- their numbers, and what a test that passes says of them. Rests on the tests' own laws, `borrow.Author.Tests`.
use Rattle.std.specs.Prelude.{if◌then◌else◌, Option, Some, None}
use Prim.Native.Nat.{ℕ, ◌≤◌, ◌<◌}
use mathlib.Core.Path.{◌≡◌, refl, sym, ap, ◌∙◌}
use mathlib.Core.Bool.{Bool, true, false, not, ◌&&◌, ◌||◌, false≢true}
use lib.Dec.{ltb, leb, eqb}
use borrow.Author.Tests.{lt-ltb, le-ltb, le-leb, lt-leb, eq-eqb, ne_eqb, ltb-true, ltb-false, leb-true, leb-false, eqb-true, eqb-false}
use Rattle.definition.specs.Basics.{between}

-- for `simp` and `search`: a test for less is decided by what is known of its numbers
pub ruleset tests = (lt-ltb, le-ltb)

-- the same of every test
pub ruleset all_tests = (lt-ltb, le-ltb, le-leb, lt-leb, eq-eqb, ne_eqb)

-- what holds where a test is true, and where it is false, holds of the test
pub by_bool : (P : Bool → Type 0) (t : Bool) → (t ≡ true → P true) → (t ≡ false → P false) → P t
by_bool P true f g = f refl
by_bool P false f g = g refl

-- no test is both
pub never : {X : Type 0} → false ≡ true → X
never e = absurd (false≢true e)

module _ {X : Type 0} where
  -- by a test's outcome
  pub by_outcome : (t : Bool) → (t ≡ true → X) → (t ≡ false → X) → X
  by_outcome true f g = f refl
  by_outcome false f g = g refl

  -- of two numbers the first is below the second or not
  pub by_order : (a b : ℕ) → (a < b → X) → (b ≤ a → X) → X
  by_order a b f g = by_outcome (ltb a b) (λ e. f (ltb-true a b e)) (λ e. g (ltb-false a b e))

  -- or they are equal or not
  pub by_equal : (a b : ℕ) → (a ≡ b → X) → ((a ≡ b → ⊥) → X) → X
  by_equal a b f g = by_outcome (eqb a b) (λ e. f (eqb-true a b e)) (λ e. g (eqb-false a b e))

module _ {X : Type 0} (P : X → Type 0) where
  -- by a test
  pub by_test : (t : Bool) {x y : X} → (t ≡ true → P x) → (t ≡ false → P y) → P (elim t [ true ↦ x | false ↦ y ])
  by_test true f g = f refl
  by_test false f g = g refl

  -- by an order test
  pub by_lt : (a b : ℕ) {x y : X} → (a < b → P x) → (b ≤ a → P y) → P (elim (ltb a b) [ true ↦ x | false ↦ y ])
  by_lt a b f g = by_test (ltb a b) (λ e. f (ltb-true a b e)) (λ e. g (ltb-false a b e))

  -- the same of the other order test
  pub by_le : (a b : ℕ) {x y : X} → (a ≤ b → P x) → (b < a → P y) → P (elim (leb a b) [ true ↦ x | false ↦ y ])
  by_le a b f g = by_test (leb a b) (λ e. f (leb-true a b e)) (λ e. g (leb-false a b e))

  -- the same of `if◌then◌else◌`
  pub by_if : (t : Bool) {x y : X} → (t ≡ true → P x) → (t ≡ false → P y) → P (if t then x else y)
  by_if true f g = f refl
  by_if false f g = g refl

  -- by an order test of `if◌then◌else◌`
  pub by_if_lt : (a b : ℕ) {x y : X} → (a < b → P x) → (b ≤ a → P y) → P (if ltb a b then x else y)
  by_if_lt a b f g = by_if (ltb a b) (λ e. f (ltb-true a b e)) (λ e. g (ltb-false a b e))

  -- by what a matcher found
  pub by_match : (m : Option ℕ) {x : ℕ → X} {y : X} → ((e : ℕ) → m ≡ Some e → P (x e)) → (m ≡ None → P y) → P (elim m [ Some e ↦ x e | None ↦ y ])
  by_match (Some e) f g = f e refl
  by_match None f g = g refl

-- what a matcher found, or that it found nothing
pub by_found : {X : Type 0} (m : Option ℕ) → ((e : ℕ) → m ≡ Some e → X) → (m ≡ None → X) → X
by_found (Some e) on off = on e refl
by_found None on off = off refl

-- both tests of a conjunction pass
pub both : (a b : Bool) → a && b ≡ true → (a ≡ true) × (b ≡ true)
both true b e = (refl, e)
both false b e = absurd (false≢true e)

-- where both pass, so does the conjunction
pub both_true : (a b : Bool) → a ≡ true → b ≡ true → a && b ≡ true
both_true true b p q = q
both_true false b p q = absurd (false≢true p)

-- a number that passes the test lies between the two others, or is one of them
pub between_true : (a b c : ℕ) → between a b c ≡ true → (a ≤ c) × (c ≤ b)
between_true a b c e =
    let h = both (leb a c) (leb c b) e in
    (leb-true a c h.0, leb-true c b h.1)

-- what holds where either test of a disjunction passes holds where the disjunction does
pub either : {X : Type 0} (a b : Bool) → (a ≡ true → X) → (b ≡ true → X) → a || b ≡ true → X
either true b f g e = f refl
either false b f g e = g e

-- below is not at most, the other way round
pub ltb_leb : (a b : ℕ) → ltb a b ≡ not (leb b a)
ltb_leb a b = go (ltb a b) refl
  where
    go : (t : Bool) → ltb a b ≡ t → ltb a b ≡ not (leb b a)
    go true e = e ∙ ap not (sym (lt-leb b a (ltb-true a b e)))
    go false e = e ∙ ap not (sym (le-leb b a (ltb-false a b e)))
