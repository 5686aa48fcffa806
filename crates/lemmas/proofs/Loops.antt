-- Loops that end: with fuel above a measure that each further call lowers, neither the fuel nor `out` matters, a loop is
-- what one turn of it says, and what an invariant gives at an answer holds of the loop's answer. Rests on nothing but the
-- definition of `loop`; every later proof about a loop of the definition is an instance of these.
use Prim.Native.Nat.{ℕ, zero, suc, ◌<◌}
use mathlib.Core.Path.{◌≡◌, refl, sym, ap, subst, ◌∙◌}
use native.Mathlib.Omega.{arith}
use Rattle.definition.specs.Basics.{Turn, again, done, loop}
pub use Rattle.lemmas.specs.Loops.{Leads}

-- what a turn says, where k is what a further call answers
abbrev pub says : {A R : Type 0} → Turn A R → (A → R) → R
says (again b) k = k b
says (done r) k = r

-- nothing is asked
abbrev pub Any : {A : Type 0} → A → Type 0
Any a = Unit {0}

-- more is kept of a turn
pub leads_map : {A R : Type 0} {P P' : A → Type 0} {Q Q' : R → Type 0} → ((a : A) → P a → P' a) → ((r : R) → Q r → Q' r)
    → (t : Turn A R) → Leads P Q t → Leads P' Q' t
leads_map f g (again b) h = f b h
leads_map f g (done r) h = g r h

-- two things are kept of what a turn calls itself with
pub leads_both : {A R : Type 0} (P P' : A → Type 0) (Q Q' : R → Type 0) (t : Turn A R) → Leads P Q t → Leads P' Q' t → Leads (λ a. P a × P' a) Any t
leads_both P P' Q Q' (again b) h k = (h, k)
leads_both P P' Q Q' (done r) h k = tt

-- from where P holds, each further call keeps P and lowers the measure m, and each answer is a Q
pub record Falls {A R : Type 0} (turn : A → Turn A R) (P : A → Type 0) (m : A → ℕ) (Q : R → Type 0) : Type 0 where
  pub at : (a : A) → P a → Leads (λ b. P b × (m b < m a)) Q (turn a)

module _ {A R : Type 0} (turn : A → Turn A R) where
  -- with a call left, a loop is what its turn says of the calls after it
  pub loop_turn : (out : A → R) (n : ℕ) (a : A) → loop turn out (suc n) a ≡ says (turn a) (loop turn out n)
  unfolding loop
  loop_turn out n a = go (turn a)
    where
      go : (t : Turn A R) → elim t [ again b ↦ loop turn out n b | done r ↦ r ] ≡ says t (loop turn out n)
      go (again b) = refl
      go (done r) = refl

  -- whatever the fuel: what a turn keeps, and what `out` gives of it too, holds of the answer
  pub loop_keeps : (P : A → Type 0) (Q : R → Type 0) (out : A → R) → ((a : A) → P a → Leads P Q (turn a)) → ((a : A) → P a → Q (out a))
      → (n : ℕ) (a : A) → P a → Q (loop turn out n a)
  unfolding loop
  loop_keeps P Q out keeps ends zero a p = ends a p
  loop_keeps P Q out keeps ends (suc n) a p = go (turn a) (keeps a p) (loop_keeps P Q out keeps ends n)
    where
      go : (t : Turn A R) → Leads P Q t → ((b : A) → P b → Q (loop turn out n b)) → Q (elim t [ again b ↦ loop turn out n b | done r ↦ r ])
      go (again b) h rest = rest b h
      go (done r) h rest = h

module _ {A R : Type 0} {turn : A → Turn A R} {P : A → Type 0} {m : A → ℕ} {Q : R → Type 0} (falls : Falls turn P m Q) where
  -- with fuel above the measure the answer depends on neither the fuel nor `out`
  pub loop_same : (out out' : A → R) (n n' : ℕ) (a : A) → P a → m a < n → m a < n' → loop turn out n a ≡ loop turn out' n' a
  loop_same out out' zero n' a p h h' = absurd (omega arith)
  loop_same out out' (suc n) zero a p h h' = absurd (omega arith)
  loop_same out out' (suc n) (suc n') a p h h' =
      loop_turn turn out n a ∙ go (turn a) (falls.at a p) (loop_same out out' n n') ∙ sym (loop_turn turn out' n' a)
    where
      go : (t : Turn A R) → Leads (λ b. P b × (m b < m a)) Q t
          → ((b : A) → P b → m b < n → m b < n' → loop turn out n b ≡ loop turn out' n' b)
          → says t (loop turn out n) ≡ says t (loop turn out' n')
      go (again b) f rest = rest b f.0 (omega (arith, f.1)) (omega (arith, f.1))
      go (done r) f rest = refl

  -- with fuel above the measure a loop is what its turn says, a further call having the same fuel
  pub loop_unroll : (out : A → R) (n : ℕ) (a : A) → P a → m a < n → loop turn out n a ≡ says (turn a) (loop turn out n)
  loop_unroll out n a p h = loop_same out out n (suc n) a p h (omega arith) ∙ loop_turn turn out n a

  -- the same of a loop whose fuel goes by what it is called with
  pub loop_unroll_by : (out : A → R) (fuel : A → ℕ) → ((a : A) → P a → m a < fuel a) → (a : A) → P a
      → loop turn out (fuel a) a ≡ says (turn a) (λ b. loop turn out (fuel b) b)
  loop_unroll_by out fuel enough a p = loop_unroll out (fuel a) a p (enough a p) ∙ go (turn a) (falls.at a p)
    where
      go : (t : Turn A R) → Leads (λ b. P b × (m b < m a)) Q t → says t (loop turn out (fuel a)) ≡ says t (λ b. loop turn out (fuel b) b)
      go (again b) f = loop_same out out (fuel a) (fuel b) b f.0 (omega (arith, enough a p, f.1)) (enough b f.0)
      go (done r) f = refl

  -- the two things that a turn can say, one by one
  pub loop_again : (out : A → R) (n : ℕ) (a b : A) → P a → m a < n → turn a ≡ again b → loop turn out n a ≡ loop turn out n b
  loop_again out n a b p h e = loop_unroll out n a p h ∙ ap (λ t. says t (loop turn out n)) e

  -- an answer
  pub loop_done : (out : A → R) (n : ℕ) (a : A) (r : R) → P a → m a < n → turn a ≡ done r → loop turn out n a ≡ r
  loop_done out n a r p h e = loop_unroll out n a p h ∙ ap (λ t. says t (loop turn out n)) e

  -- with fuel above the measure what holds of each answer of a turn holds of the loop's
  pub loop_gives : (out : A → R) (n : ℕ) (a : A) → P a → m a < n → Q (loop turn out n a)
  loop_gives out zero a p h = absurd (omega arith)
  loop_gives out (suc n) a p h = subst Q (sym (loop_turn turn out n a)) (go (turn a) (falls.at a p) (loop_gives out n))
    where
      go : (t : Turn A R) → Leads (λ b. P b × (m b < m a)) Q t → ((b : A) → P b → m b < n → Q (loop turn out n b)) → Q (says t (loop turn out n))
      go (again b) f rest = rest b f.0 (omega (arith, f.1))
      go (done r) f rest = f
