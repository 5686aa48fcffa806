-- What a `match` gives by the keys of its arms: what a number that is none of the keys has, and that the arms of a table give what the
-- table has. Rests on nothing.
use Prim.Native.Nat.{ℕ, zero, suc, ◌+◌}
use native.Mathlib.Omega.{arith}
use mathlib.Core.Path.{◌≡◌, refl, sym, subst}
use mathlib.Core.Bool.{true, false}
use mathlib.Core.List.{List, [], ◌∷◌, map}
use mathlib.Core.Logic.{⊎_elim}
use types.Run.{OneOf}
use lib.ListN.{get_or}
use borrow.Author.Tests.{ne_eqb}
use Rattle.definition.specs.Basics.{mem_cp}
use Rattle.lemmas.proofs.Members.{Rest, keys_of, all_own, no_key}
use Rattle.rule_table.specs.Keys.{at_key, Missing}

pub missing : {X : Type 0} (n : ℕ) (l : List (ℕ × X)) (d : X) → Missing l n → at_key n l d ≡ d
missing n [] d h = refl
missing n (x ∷ l) d h = rw (at_key, ne_eqb n x.0 h.1) (missing n l d h.0)

-- ---- tables as the arms of a `match`

module _ {X : Type 0} {x y : X} {l m : List X} where
  same_first : x ∷ l ≡ y ∷ m → x ≡ y
  same_first q = cc

  same_rest : x ∷ l ≡ y ∷ m → l ≡ m
  same_rest q = cc

-- what every key of an arm has, one of them has
pub of_keys : {X : Type 0} (g : ℕ → X) (keys : List ℕ) {n : ℕ} {r : X} → map (λ (k : ℕ). r) keys ≡ map g keys → OneOf keys n → r ≡ g n
of_keys g [] t h = absurd h
of_keys g (k ∷ []) t h = rw h (same_first t)
of_keys g (k ∷ k' ∷ ks) t h = ⊎_elim (λ q. rw q (same_first t)) (of_keys g (k' ∷ ks) (same_rest t)) h

module _ {X : Type 0} (d : X) (keys : List ℕ) where
  -- a list whose first entry is numbered j, with d at each of the keys
  abbrev covered : ℕ → List X → List X
  covered j [] = []
  covered j (x ∷ l) = elim (mem_cp j keys) [ true ↦ d | false ↦ x ] ∷ covered (suc j) l

  -- where that is nothing but d, every entry that is none of the keys is d
  uncovered : (j : ℕ) (l : List X) → covered j l ≡ map (λ (x : X). d) l → (n : ℕ) → mem_cp (j + n) keys ≡ false → d ≡ get_or l n d
  uncovered j [] t n h = refl
  uncovered j (x ∷ l) t zero h =
      let here : mem_cp j keys ≡ false = subst (λ (m : ℕ). mem_cp m keys ≡ false) (omega arith) h in
      let q = rw here at t in
      sym (same_first q)
  uncovered j (x ∷ l) t (suc n) h = uncovered (suc j) l (same_rest t) n (subst (λ (m : ℕ). mem_cp m keys ≡ false) (omega arith) h)

-- so that a number that no arm has is that of an entry d
pub of_others : {X : Type 0} (kss : List (List ℕ)) (l : List X) (d : X) (n : ℕ) → all_own kss ≡ true → covered d (keys_of kss) 0 l ≡ map (λ (x : X). d) l → Rest kss n
    → d ≡ get_or l n d
of_others kss l d n t u h =
    uncovered d (keys_of kss) 0 l u n (subst (λ (m : ℕ). mem_cp m (keys_of kss) ≡ false) (omega arith) (no_key kss n t h))
