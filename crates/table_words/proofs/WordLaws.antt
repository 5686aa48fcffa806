-- A lexeme against a word. Rests on nothing but the definition.
use Prim.Native.Nat.{ℕ, ◌≤◌}
use mathlib.Core.Path.{◌≡◌, refl, sym, ap, ap₂, ◌∙◌}
use mathlib.Core.Bool.{Bool, true, false, false≢true}
use mathlib.Core.List.{[], ◌∷◌}
use native.Mathlib.Omega.{arith}
use lib.Dec.{eqb}
use lib.ListN.{length}
use lib.Seq.{take_all}
use borrow.Author.Tests.{eq-eqb, ne_eqb, eqb-true, eqb-false}
use Rattle.definition.specs.Basics.{Bytes, same}
use Rattle.definition.specs.Token.{starts_with}
use Rattle.std.specs.Str.{bytes_eq}
use Rattle.lemmas.proofs.Cases.{by_bool, by_outcome}

-- Two lists that are the same are equal.
pub same_equal : (a b : Bytes) → same a b ≡ true → a ≡ b
unfolding same
same_equal [] [] e = refl
same_equal [] (y ∷ b) e = absurd (false≢true e)
same_equal (x ∷ a) [] e = absurd (false≢true e)
same_equal (x ∷ a) (y ∷ b) e =
    by_bool (λ t. t ≡ eqb x y → elim t as (λ _. Bool) [ true ↦ same a b | false ↦ false ] ≡ true → ◌≡◌ {A = Bytes} (x ∷ a) (y ∷ b)) (eqb x y)
    (λ q _ r. ap₂ (λ (z : ℕ) (l : Bytes). z ∷ l) (eqb-true x y q) (same_equal a b r))
    (λ q _ r. absurd (false≢true r))
    refl
    e

-- The library's test of a lexeme and a word is the definition's.
pub compares : (id w : Bytes) → bytes_eq id w ≡ same w id
unfolding same
compares [] [] = refl
compares [] (y ∷ w) = refl
compares (x ∷ id) [] = refl
compares (x ∷ id) (y ∷ w) =
    by_outcome (eqb x y)
    (λ e. rw (same, e, eq-eqb y x (sym (eqb-true x y e)), same) (compares id w))
    (λ e. rw (same, e, ne_eqb y x (λ q. eqb-false x y e (sym q)), same))

-- The same test from either side.
same_sym : (a b : Bytes) → same a b ≡ same b a
unfolding same
same_sym [] [] = refl
same_sym [] (y ∷ b) = refl
same_sym (x ∷ a) [] = refl
same_sym (x ∷ a) (y ∷ b) =
    by_outcome (eqb x y)
    (λ e. rw (same, e, eq-eqb y x (sym (eqb-true x y e)), same) (same_sym a b))
    (λ e. rw (same, e, ne_eqb y x (λ q. eqb-false x y e (sym q)), same))

-- A lexeme as long as the word begins with it where it is the word.
pub whole : (id w : Bytes) → length id ≡ length w → starts_with id w ≡ same w id
unfolding starts_with
whole id w e =
    let h : length id ≤ length w = omega arith in
    ap (λ (l : Bytes). same l w) (take_all (length w) id h) ∙ same_sym id w

-- One of another length is not the word.
pub other_length : (id w : Bytes) → (length id ≡ length w → ⊥) → false ≡ same w id
other_length id w n = by_outcome (same w id) (λ e. absurd (n (ap length (sym (same_equal w id e))))) (λ e. sym e)
