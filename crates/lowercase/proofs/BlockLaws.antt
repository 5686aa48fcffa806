-- The bits of a block say which of its code points are letters, and they hang on the ranges alone that meet the block, so that only
-- those are computed with. Rests on the definition's `ll_tbl` and on the laws of tests.
use Rattle.std.specs.Prelude.{Option, Some}
use Prim.Native.Nat.{ℕ, zero, suc, ◌+◌, ◌*◌, ◌/◌, ◌%◌, ◌^◌, ◌≤◌, ◌<◌}
use mathlib.Core.Path.{◌≡◌, refl, sym, ap, ◌∙◌}
use mathlib.Core.Bool.{Bool, true, false, ◌||◌}
use mathlib.Core.List.{List, [], ◌∷◌}
use native.Mathlib.Omega.{arith}
use native.Mathlib.Nat.{add-zero, add-suc, suc-add, pow-succ', div-div-eq-div-mul}
use lib.Dec.{ltb, eqb}
use borrow.Author.Tests.{ltb-true}
use Rattle.definition.specs.Basics.{between}
use Rattle.definition.specs.ClassFile.{Range, in_ranges}
use Rattle.definition.specs.Lowercase.{ll_tbl, is_ll}
use Rattle.lemmas.proofs.Cases.{by_test, either}
use Rattle.class_file.proofs.SearchLaws.{between_cases}
use Rattle.lowercase.specs.Blocks.{as_bit, letters, Tells}

-- ---- the bits

-- A bit is 0 or 1.
small : (t : Bool) → as_bit t ≤ 1
small true = omega arith
small false = omega arith

-- Half of a number whose lowest bit is given.
half : (b x : ℕ) → b ≤ 1 → (b + 2 * x) / 2 ≡ x
half b x h = omega arith

-- Bit j of what passes from c on is that of code point c + j.
bit_of : (t : ℕ → Bool) (n c j : ℕ) → j < n → letters t n c / 2 ^ j % 2 ≡ as_bit (t (c + j))
unfolding letters
bit_of t zero c j h = absurd (omega arith)
bit_of t (suc n) c zero h =
    let e : (as_bit (t c) + 2 * letters t n (suc c)) / 1 % 2 ≡ as_bit (t c) = omega (arith, small (t c)) in
    rw (add-zero c) e
bit_of t (suc n) c (suc j) h =
    let b = as_bit (t c) in
    let x = letters t n (suc c) in
    ap (λ (y : ℕ). y % 2)
    (ap (λ (y : ℕ). (b + 2 * x) / y) (pow-succ' 2 j)
    ∙ sym (div-div-eq-div-mul (b + 2 * x) 2 (2 ^ j))
    ∙ ap (λ (y : ℕ). y / 2 ^ j) (half b x (small (t c))))
    ∙ bit_of t n (suc c) j (omega arith)
    ∙ ap (λ (y : ℕ). as_bit (t y)) (suc-add c j ∙ sym (add-suc c j))

-- A bit is 1 where its test passes.
bit_tested : (t : Bool) → eqb (as_bit t) 1 ≡ t
bit_tested true = refl
bit_tested false = refl

-- What is told of a block tells of each of its code points.
pub bit_told : (c : ℕ) {r : Option ℕ} {w : ℕ} → Tells (c / 64) r → r ≡ Some w → eqb (w / 2 ^ (c % 64) % 2) 1 ≡ is_ll c
bit_told c {w = w} t e =
    let told : w ≡ letters is_ll 64 (64 * (c / 64)) = rw e at t in
    let place : 64 * (c / 64) + c % 64 ≡ c = omega arith in
    ap (λ (x : ℕ). eqb (x / 2 ^ (c % 64) % 2) 1) told
    ∙ ap (λ (x : ℕ). eqb x 1) (bit_of is_ll 64 (64 * (c / 64)) (c % 64) (omega arith))
    ∙ bit_tested (is_ll (64 * (c / 64) + c % 64))
    ∙ ap is_ll place

-- ---- the ranges that meet a block

-- the ranges of a list that meet the code points from a to b
abbrev near : ℕ → ℕ → List Range → List Range
near a b [] = []
near a b (r ∷ rs) = elim (ltb r.1 a || ltb b r.0) [ true ↦ near a b rs | false ↦ r ∷ near a b rs ]

-- Of these code points no other range of the list holds any.
near_same : (a b c : ℕ) (rs : List Range) → a ≤ c → c ≤ b → in_ranges (near a b rs) c ≡ in_ranges rs c
unfolding in_ranges
near_same a b c [] l h = refl
near_same a b c (r ∷ rs) l h =
    let same = near_same a b c rs l h in
    by_test (λ (met : List Range). in_ranges met c ≡ in_ranges (r ∷ rs) c) (ltb r.1 a || ltb b r.0)
    (λ far.
    same
    ∙ between_cases r.0 r.1 c (λ (held : Bool). in_ranges rs c ≡ elim held [ true ↦ true | false ↦ in_ranges rs c ])
    (λ from to.
    either (ltb r.1 a) (ltb b r.0)
    (λ e. absurd (omega (arith, ltb-true r.1 a e)))
    (λ e. absurd (omega (arith, ltb-true b r.0 e)))
    far)
    (λ _. refl)
    (λ _. refl))
    (λ _. ap (λ (held : Bool). elim (between r.0 r.1 c) [ true ↦ true | false ↦ held ]) same)

-- Two tests that agree on n code points from c on have the same bits there.
agreeing : (t u : ℕ → Bool) (n c : ℕ) → ((j : ℕ) → c ≤ j → j < c + n → t j ≡ u j) → letters t n c ≡ letters u n c
unfolding letters
agreeing t u zero c e = refl
agreeing t u (suc n) c e = rw (e c (omega arith) (omega arith), agreeing t u n (suc c) (λ j l h. e j (omega arith) (omega arith)))

-- So the bits of a block are told by the ranges that meet it, or that meet any of the blocks from `low` to `high` that it is one of.
near_tells : (low high k : ℕ) → low ≤ k → k ≤ high → letters (in_ranges (near (64 * low) (64 * high + 63) ll_tbl)) 64 (64 * k) ≡ letters is_ll 64 (64 * k)
unfolding is_ll
near_tells low high k l h =
    agreeing (in_ranges (near (64 * low) (64 * high + 63) ll_tbl)) (in_ranges ll_tbl) 64 (64 * k)
    (λ j from to. near_same (64 * low) (64 * high + 63) j ll_tbl (omega arith) (omega arith))

-- A number that has them has the letters of the block.
pub computed : (k : ℕ) {w : ℕ} → w ≡ letters (in_ranges (near (64 * k) (64 * k + 63) ll_tbl)) 64 (64 * k) → w ≡ letters is_ll 64 (64 * k)
computed k e = e ∙ near_tells k k k (omega arith) (omega arith)

-- Where no range is there, no bit is set.
no_bits : (n c : ℕ) → letters (in_ranges []) n c ≡ 0
unfolding letters in_ranges
no_bits zero c = refl
no_bits (suc n) c = rw (no_bits n (suc c))

-- The blocks from `low` to `high` have no letters where no range of the table meets them.
pub empty_block : (low high k : ℕ) → near (64 * low) (64 * high + 63) ll_tbl ≡ [] → low ≤ k → k ≤ high → 0 ≡ letters is_ll 64 (64 * k)
empty_block low high k e l h = sym (no_bits 64 (64 * k)) ∙ ap (λ (rs : List Range). letters (in_ranges rs) 64 (64 * k)) (sym e) ∙ near_tells low high k l h
