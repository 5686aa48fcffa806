-- A matcher's answer is right: it is the greatest of the ends that there are, or that there are none. One law for each way of putting
-- matchers together, over any ends. Rests on the definition of those ways alone.
use Rattle.std.specs.Prelude.{if◌then◌else◌, Option, Some, None}
use Prim.Native.Nat.{ℕ, ◌≤◌, ◌<◌}
use mathlib.Core.Path.{◌≡◌, refl, subst}
use mathlib.Core.Bool.{Bool, true, false, ◌&&◌, false≢true}
use mathlib.Core.Logic.{◌⊎◌, inl, inr}
use native.Mathlib.Omega.{arith}
use lib.Dec.{ltb}
use borrow.Author.Tests.{ltb-true, ltb-false}
use Rattle.definition.specs.Matchers.{◌then◌, later, only}
use Rattle.lemmas.proofs.Cases.{by_order}

-- The greatest of the ends that P has, or that it has none.
pub record Right (P : ℕ → Type 0) (m : Option ℕ) : Type 0 where
  pub fits : (e : ℕ) → m ≡ Some e → P e
  pub top : (k : ℕ) → P k → (e : ℕ) × (m ≡ Some e) × (k ≤ e)

-- P has one end at most.
abbrev pub Single : (ℕ → Type 0) → Type 0
Single P = (j k : ℕ) → P j → P k → j ≡ k

-- An end is not none.
pub some_end : {X : Type 0} {e : ℕ} → None ≡ Some e → X
some_end q = let z : ◌≡◌ {A = ℕ} 0 1 = cc in absurd (omega arith)

module _ {P : ℕ → Type 0} where
  -- An end above all others is right.
  pub right_to : {e : ℕ} → P e → ((k : ℕ) → P k → k ≤ e) → Right P (Some e)
  right_to {e} p t = record { fits = λ k q. let z : e ≡ k = cc in subst P z p; top = λ k h. (e, refl, t k h) }

  -- Where there is no end, none is right.
  pub right_nothing : ((k : ℕ) → P k → ⊥) → Right P None
  right_nothing n = record { fits = λ e q. some_end q; top = λ k h. absurd (n k h) }

  -- The one end there is, is right.
  pub right_single : {m : Option ℕ} → ((e : ℕ) → m ≡ Some e → P e) → ((e : ℕ) → P e → m ≡ Some e) → Right P m
  right_single f g = record { fits = f; top = λ k h. (k, g k h, omega arith) }

  -- Whatever end there is, is found where there can be one only.
  pub single_found : {m : Option ℕ} {e : ℕ} → Single P → Right P m → P e → m ≡ Some e
  single_found {m} {e} one r p =
      let t = r.top e p in
      subst (λ (k : ℕ). m ≡ Some k) (one t.0 e (r.fits t.0 t.1) p) t.1

  -- The same ends, said in another way.
  pub right_map : {Q : ℕ → Type 0} {m : Option ℕ} → ((e : ℕ) → P e → Q e) → ((e : ℕ) → Q e → P e) → Right P m → Right Q m
  right_map f g r = record { fits = λ e q. f e (r.fits e q); top = λ k h. r.top k (g k h) }

  -- A test that each end asks for changes nothing.
  pub right_only : {m : Option ℕ} (t : Bool) → ((k : ℕ) → P k → t ≡ true) → (t ≡ true → Right P m) → Right P (only t m)
  right_only true h r = r refl
  right_only false h r = right_nothing (λ k p. false≢true (h k p))

  -- Two tests one after the other are both of them.
  pub right_both : (m : Option ℕ) (a b : Bool) → Right P (only a (only b m)) → Right P (only (a && b) m)
  right_both m true b r = r
  right_both m false b r = r

  -- A matcher that a test allows may be written as a choice.
  pub right_else : (m : Option ℕ) (t : Bool) → Right P (only t m) → Right P (if t then m else None)
  right_else m true r = r
  right_else m false r = r

  -- A choice by a test may be written in either way.
  pub right_elim : (m n : Option ℕ) (t : Bool) → Right P (if t then m else n) → Right P (elim t [ true ↦ m | false ↦ n ])
  right_elim m n true r = r
  right_elim m n false r = r

-- The later of two answers is right for the ends of both.
pub right_later : {P Q : ℕ → Type 0} {m n : Option ℕ} → Right P m → Right Q n → Right (λ e. P e ⊎ Q e) (later m n)
unfolding later
right_later {P} {Q} {m = None} {n} a b = record { fits = λ e q. inr (b.fits e q); top = top }
  where
    top : (k : ℕ) → P k ⊎ Q k → (e : ℕ) × (n ≡ Some e) × (k ≤ e)
    top k (inl h) = some_end (a.top k h).1
    top k (inr h) = b.top k h
right_later {P} {Q} {m = Some x} {n = None} a b = record { fits = λ e q. inl (a.fits e q); top = top }
  where
    top : (k : ℕ) → P k ⊎ Q k → (e : ℕ) × (Some x ≡ Some e) × (k ≤ e)
    top k (inl h) = a.top k h
    top k (inr h) = some_end (b.top k h).1
right_later {P} {Q} {m = Some x} {n = Some y} a b = go (ltb x y) refl
  where
    first : (k : ℕ) → P k → k ≤ x
    first k h = let t = a.top k h in let z : x ≡ t.0 = cc t.1 in omega (arith, t.2)

    second : (k : ℕ) → Q k → k ≤ y
    second k h = let t = b.top k h in let z : y ≡ t.0 = cc t.1 in omega (arith, t.2)

    under : {z : ℕ} → x ≤ z → y ≤ z → (k : ℕ) → P k ⊎ Q k → k ≤ z
    under u v k (inl h) = omega (arith, first k h)
    under u v k (inr h) = omega (arith, second k h)

    go : (t : Bool) → ltb x y ≡ t → Right (λ e. P e ⊎ Q e) (if t then Some y else Some x)
    go true q = right_to (inr (b.fits y refl)) (under (omega (arith, ltb-true x y q)) (omega arith))
    go false q = right_to (inl (a.fits x refl)) (under (omega arith) (omega (arith, ltb-false x y q)))

-- Of two alternatives, the first where its test passes: then no end of the second is greater.
pub right_if : {P Q : ℕ → Type 0} {x : ℕ} {m : Option ℕ} (t : Bool) → Right P (only t (Some x)) → (t ≡ true → (k : ℕ) → Q k → k ≤ x) → Right Q m
    → Right (λ e. P e ⊎ Q e) (if t then Some x else m)
right_if {P} {Q} {x} true a h b = right_to (inl (a.fits x refl)) under
  where
    under : (k : ℕ) → P k ⊎ Q k → k ≤ x
    under k (inl p) = let t = a.top k p in let z : x ≡ t.0 = cc t.1 in omega (arith, t.2)
    under k (inr q) = h refl k q
right_if {P} {Q} {m = m} false a h b = record { fits = λ e q. inr (b.fits e q); top = top }
  where
    top : (k : ℕ) → P k ⊎ Q k → (e : ℕ) × (m ≡ Some e) × (k ≤ e)
    top k (inl p) = some_end (a.top k p).1
    top k (inr q) = b.top k q

-- One matcher after another: an end of P from which Q leads on.
abbrev pub Then : (ℕ → Type 0) → (ℕ → ℕ → Type 0) → ℕ → Type 0
Then P Q e = (j : ℕ) × P j × Q j e

module _ {P : ℕ → Type 0} {Q : ℕ → ℕ → Type 0} where
  -- The second goes on from the greatest end of the first: right where it could go on from no other.
  pub right_last : {m : Option ℕ} {f : ℕ → Option ℕ} → ((j t e : ℕ) → P j → P t → j < t → Q j e → ⊥) → Right P m → ((j : ℕ) → P j → Right (Q j) (f j))
      → Right (Then P Q) (m then f)
  right_last {m} {f} n r g = go m r
    where
      go : (k : Option ℕ) → Right P k → Right (Then P Q) (k then f)
      go None r = right_nothing (λ e h. some_end (r.top h.0 h.1).1)
      go (Some j) r = record { fits = λ e q. (j, here, (g j here).fits e q); top = top }
        where
          here : P j
          here = r.fits j refl

          top : (k : ℕ) → Then P Q k → (e : ℕ) × (f j ≡ Some e) × (k ≤ e)
          top k (i, p, q) =
              let t = r.top i p in
              let z : j ≡ t.0 = cc t.1 in
              by_order i j (λ h. absurd (n i j k p here h q))
              (λ h. let same : i ≡ j = omega (arith, t.2) in (g j here).top k (subst (λ (x : ℕ). Q x k) same q))

  -- Where the first has one end at most there is no other.
  pub right_then : {m : Option ℕ} {f : ℕ → Option ℕ} → Single P → Right P m → ((j : ℕ) → P j → Right (Q j) (f j)) → Right (Then P Q) (m then f)
  right_then one = right_last (λ j t e p q h _. omega (arith, one j t p q))

  -- The same holds of a first part that a test finds.
  pub right_head : (j : ℕ) {m : Option ℕ} (t : Bool) → Single P → Right P (only t (Some j)) → (t ≡ true → Right (Q j) m) → Right (Then P Q) (only t m)
  right_head j {m} true one r g = right_then one r (λ k p. let same : j ≡ k = one j k (r.fits j refl) p in subst (λ (x : ℕ). Right (Q x) m) same (g refl))
  right_head j false one r g = right_nothing (λ e h. some_end (r.top h.0 h.1).1)

  -- One after another there is one end at most, where each part has one at most.
  pub single_then : Single P → ((j : ℕ) → Single (Q j)) → Single (Then P Q)
  single_then f g j k (a, p, q) (b, x, y) = g b j k (subst (λ (n : ℕ). Q n j) (f a b p x) q) y

-- Of two alternatives that exclude each other there is one end at most.
pub single_alt : {P Q : ℕ → Type 0} → Single P → Single Q → ((j k : ℕ) → P j → Q k → ⊥) → Single (λ e. P e ⊎ Q e)
single_alt f g n j k (inl p) (inl q) = f j k p q
single_alt f g n j k (inl p) (inr q) = absurd (n j k p q)
single_alt f g n j k (inr p) (inl q) = absurd (n k j q p)
single_alt f g n j k (inr p) (inr q) = g j k p q
