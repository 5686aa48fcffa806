-- The texts are short; and rules that hold of every number of a range. Rests on the laws of lists.
use Prim.Native.Nat.{ℕ, zero, suc, ◌+◌, ◌-◌, ◌≤◌, ◌<◌}
use mathlib.Core.Path.{◌≡◌, refl, sym, ap, ◌∙◌}
use mathlib.Core.Bool.{Bool, true, ◌&&◌}
use mathlib.Core.List.{List, [], ◌∷◌}
use native.Mathlib.Omega.{arith}
use lib.ListN.{length, get_or, take, drop, replicate}
use Rattle.std.proofs.lemmas.List.{get_or-drop, get_or-take}
use lib.Dec.{eqb, leb}
use borrow.Author.Tests.{leb-true, eqb-true, eqb-false}
use Rattle.definition.specs.Basics.{Bytes}
use Rattle.lemmas.proofs.Cases.{by_outcome, both}

-- no text is long
abbrev pub all_short : List Bytes → Bool
all_short [] = true
all_short (t ∷ ts) = leb (length t) 7 && all_short ts

pub short_at : (ts : List Bytes) → all_short ts ≡ true → (k : ℕ) → length (get_or ts k []) ≤ 7
short_at [] e k = omega arith
short_at (t ∷ ts) e zero = leb-true (length t) 7 (both (leb (length t) 7) (all_short ts) e).0
short_at (t ∷ ts) e (suc k) = short_at ts (both (leb (length t) 7) (all_short ts) e).1 k

-- text k is that of a part of the texts, or none, where the part holds those from a on
pub text_in : (ts : List Bytes) (a n k : ℕ) → a ≤ k → k < a + n → get_or (take n (drop a ts)) (k - a) [] ≡ get_or ts k []
text_in ts a n k p q =
    let e : a + (k - a) ≡ k = omega arith in
    get_or-take n (drop a ts) (k - a) [] (omega arith) ∙ get_or-drop a ts (k - a) [] ∙ ap (λ (i : ℕ). get_or ts i []) e

-- a text of a part in which there are none
nothing_at : (n k : ℕ) → ◌≡◌ {A = Bytes} (get_or (replicate n []) k []) []
nothing_at zero k = refl
nothing_at (suc n) zero = refl
nothing_at (suc n) (suc k) = nothing_at n k

pub no_text : (ts : List Bytes) (a n k : ℕ) → take n (drop a ts) ≡ replicate n [] → a ≤ k → k < a + n → [] ≡ get_or ts k []
no_text ts a n k e p q = sym (nothing_at n (k - a)) ∙ ap (λ (l : List Bytes). get_or l (k - a) []) (sym e) ∙ text_in ts a n k p q

-- ---- rules of a range, by a computed test

-- two functions give the same of each of the n numbers from a on
abbrev same_from : (ℕ → ℕ) → (ℕ → ℕ) → ℕ → ℕ → Bool
same_from f g a zero = true
same_from f g a (suc n) = eqb (f a) (g a) && same_from f g (suc a) n

pub each_from : (f g : ℕ → ℕ) (a n : ℕ) → same_from f g a n ≡ true → (k : ℕ) → a ≤ k → k < a + n → f k ≡ g k
each_from f g a zero t k p q = absurd (omega arith)
each_from f g a (suc n) t k p q =
    let b = both (eqb (f a) (g a)) (same_from f g (suc a) n) t in
    by_outcome (eqb k a)
    (λ e. let h = eqb-true k a e in rw h (eqb-true (f a) (g a) b.0))
    (λ e. let d = eqb-false k a e in each_from f g (suc a) n b.1 k (omega arith) (omega arith))
