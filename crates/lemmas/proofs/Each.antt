-- A fact for each element of a list, in order. Rests on nothing.
use Prim.Native.Nat.{ℕ, zero, suc, ◌+◌, ◌<◌}
use mathlib.Core.Path.{◌≡◌, subst}
use mathlib.Core.List.{List, [], ◌∷◌, map}
use native.Mathlib.Omega.{arith}
use lib.ListN.{length, get_or}

infixr 5 ◌⨾◌
infixr 5 ◌⨟◌
-- P holds of each element
pub data Each {A : Type 0} (P : A → Type 0) : List A → Type 0 where
  none_left : Each P []
  ◌⨾◌ : {a : A} {l : List A} → P a → Each P l → Each P (a ∷ l)

-- what a function makes of each element
pub each_map : {A B : Type 0} {P : A → Type 0} {Q : B → Type 0} {l : List A} (g : A → B) → ((a : A) → P a → Q (g a)) → Each P l → Each Q (map g l)
each_map g f none_left = none_left
each_map g f (h ⨾ hs) = f _ h ⨾ each_map g f hs

-- P holds of each element and its number, the first being numbered n
pub data Numbered {A : Type 0} (P : ℕ → A → Type 0) : ℕ → List A → Type 0 where
  no_more : {n : ℕ} → Numbered P n []
  ◌⨟◌ : {n : ℕ} {a : A} {l : List A} → P n a → Numbered P (suc n) l → Numbered P n (a ∷ l)

-- the element numbered n + k, where there is one
pub numbered_within : {A : Type 0} {P : ℕ → A → Type 0} {n : ℕ} {l : List A} (d : A) → Numbered P n l → (k : ℕ) → k < length l → P (n + k) (get_or l k d)
numbered_within d no_more k h = absurd (omega arith)
numbered_within {P = P} {n} {l = a ∷ l} d (p ⨟ ps) zero h = let q : n ≡ n + 0 = omega arith in subst (λ m. P m a) q p
numbered_within {P = P} {n} {l = a ∷ l} d (p ⨟ ps) (suc k) h =
    let q : suc n + k ≡ n + suc k = omega arith in
    subst (λ m. P m (get_or l k d)) q (numbered_within d ps k (omega arith))

-- what follows from P of each element and its number
pub numbered_map : {A : Type 0} {P Q : ℕ → A → Type 0} {n : ℕ} {l : List A} → ((k : ℕ) (a : A) → P k a → Q k a) → Numbered P n l → Numbered Q n l
numbered_map f no_more = no_more
numbered_map f (p ⨟ ps) = f _ _ p ⨟ numbered_map f ps
