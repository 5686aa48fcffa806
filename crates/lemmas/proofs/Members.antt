-- A number among those of a list, as a `match` of the code finds it: by the keys of its arms. Rests on nothing but the definition of
-- `mem_cp`.
use Prim.Native.Nat.{ℕ}
use mathlib.Core.Path.{◌≡◌, refl, sym, ap, subst, ◌∙◌}
use mathlib.Core.Bool.{Bool, true, false, ◌&&◌, false≢true}
use mathlib.Core.List.{List, [], ◌∷◌, ◌++◌}
use mathlib.Core.Logic.{⊎_elim, inl, inr}
use types.Run.{OneOf}
use lib.Dec.{eqb}
use borrow.Author.Tests.{eqb-true}
use Rattle.definition.specs.Basics.{mem_cp}
use Rattle.lemmas.proofs.Cases.{by_test, both}

-- each number of a list is in another
abbrev pub all_in : List ℕ → List ℕ → Bool
all_in [] l = true
all_in (k ∷ ks) l = mem_cp k l && all_in ks l

-- A number that is one of some keys, all of which are in a list, is in that list.
pub mem_yes : (keys l : List ℕ) (x : ℕ) → all_in keys l ≡ true → OneOf keys x → mem_cp x l ≡ true
mem_yes [] l x a h = absurd h
mem_yes (k ∷ []) l x a h = rw h (both (mem_cp k l) true a).0
mem_yes (k ∷ k' ∷ ks) l x a h =
    let b = both (mem_cp k l) (all_in (k' ∷ ks) l) a in
    ⊎_elim (λ q. rw q b.0) (mem_yes (k' ∷ ks) l x b.1) h

-- A number in the list of the keys is one of them.
key_of : (keys : List ℕ) (x : ℕ) → mem_cp x keys ≡ true → OneOf keys x
unfolding mem_cp
key_of [] x e = absurd (false≢true e)
key_of (k ∷ []) x e = by_test (λ t. t ≡ true → x ≡ k) (eqb k x) (λ q _. sym (eqb-true k x q)) (λ _ r. absurd (false≢true r)) e
key_of (k ∷ k' ∷ ks) x e =
    by_test (λ t. t ≡ true → OneOf (k ∷ k' ∷ ks) x) (eqb k x) (λ q _. inl (sym (eqb-true k x q))) (λ _ r. inr (key_of (k' ∷ ks) x r)) e

-- A number that is none of some keys is in no list of them.
pub mem_no : (keys l : List ℕ) (x : ℕ) → all_in l keys ≡ true → (OneOf keys x → ⊥) → mem_cp x l ≡ false
unfolding mem_cp
mem_no keys [] x a h = refl
mem_no keys (d ∷ l) x a h =
    let b = both (mem_cp d keys) (all_in l keys) a in
    by_test (λ t. t ≡ false) (eqb d x)
    (λ q. absurd (h (subst (OneOf keys) (eqb-true d x q) (key_of keys d b.0))))
    (λ _. mem_no keys l x b.1 h)

-- ---- what no arm of a `match` has

-- A number is none of the keys of some arms, as a `match` says it in its last arm; the keys are listed from the last arm to the first.
abbrev pub Rest : List (List ℕ) → ℕ → Type 0
Rest [] x = Unit {0}
Rest (ks ∷ kss) x = Rest kss x × (OneOf ks x → ⊥)

-- All the keys.
abbrev pub keys_of : List (List ℕ) → List ℕ
keys_of [] = []
keys_of (ks ∷ kss) = ks ++ keys_of kss

-- Each list holds its own elements: so that each number in it is one of its keys.
abbrev pub all_own : List (List ℕ) → Bool
all_own [] = true
all_own (ks ∷ kss) = all_in ks ks && all_own kss

-- What is in neither of two lists is not in both together.
neither_listed : (l m : List ℕ) (x : ℕ) → mem_cp x l ≡ false → mem_cp x m ≡ false → mem_cp x (l ++ m) ≡ false
unfolding mem_cp
neither_listed [] m x p q = q
neither_listed (d ∷ l) m x p q =
    by_test (λ (b : Bool). b ≡ false → mem_cp x ((d ∷ l) ++ m) ≡ false) (eqb d x)
    (λ _ r. absurd (false≢true (sym r)))
    (λ n r. by_test (λ (b : Bool). b ≡ false) (eqb d x) (λ e. absurd (false≢true (sym n ∙ e))) (λ _. neither_listed l m x r q))
    p

-- A number that is no key of any arm is not among all the keys.
pub no_key : (kss : List (List ℕ)) (x : ℕ) → all_own kss ≡ true → Rest kss x → mem_cp x (keys_of kss) ≡ false
unfolding mem_cp
no_key [] x t h = refl
no_key (ks ∷ kss) x t (h, n) =
    let b = both (all_in ks ks) (all_own kss) t in
    neither_listed ks (keys_of kss) x (mem_no ks ks x b.0 n) (no_key kss x b.1 h)

-- Nor is it in a list of some of them.
pub some_keys : (l m : List ℕ) (x : ℕ) → all_in l m ≡ true → mem_cp x m ≡ false → mem_cp x l ≡ false
unfolding mem_cp
some_keys [] m x t n = refl
some_keys (d ∷ l) m x t n =
    let b = both (mem_cp d m) (all_in l m) t in
    by_test (λ (b : Bool). b ≡ false) (eqb d x)
    (λ e. absurd (false≢true (sym n ∙ ap (λ (y : ℕ). mem_cp y m) (sym (eqb-true d x e)) ∙ b.0)))
    (λ _. some_keys l m x b.1 n)
