-- The tables of 128 entries: what each entry holds while a loop fills the table, and that a table that is filled is the
-- definition's. Rests on the definition's `mem_cp` and `ascii_table`. Assumes nothing.
use Prim.Native.Nat.{ℕ, zero, suc, ◌+◌, ◌≤◌, ◌<◌}
use mathlib.Core.Path.{◌≡◌, refl, sym, ap, ◌∙◌}
use mathlib.Core.Bool.{Bool, true, false}
use mathlib.Core.List.{List, [], ◌∷◌, ◌++◌, map}
use native.Mathlib.Omega.{arith}
use native.Mathlib.Nat.{le_of_suc-le-suc, not-suc-le-zero, add-zero, zero-add}
use native.Mathlib.Numerals.{add-one}
use lib.Dec.{eqb}
use lib.ListN.{length, get_or, set, take, replicate, get_or-replicate, length-set}
use lib.Seq.{ext_get_or, get_or-set_same, get_or-set_other, take-suc}
use borrow.Author.Tests.{eqb-true, eqb-false, ne_eqb}
use Rattle.definition.specs.Basics.{mem_cp}
use Rattle.definition.specs.Chars.{count_up, ascii_table}
use Rattle.lemmas.proofs.Cases.{by_bool}

-- a list that ends with a character has it
mem_last : (c b : ℕ) (l : List ℕ) → eqb b c ≡ true → mem_cp c (l ++ b ∷ []) ≡ true
unfolding mem_cp
mem_last c b [] e = rw (mem_cp, e)
mem_last c b (d ∷ l) e =
    by_bool (λ t. elim t [ true ↦ true | false ↦ mem_cp c (l ++ b ∷ []) ] ≡ true) (eqb d c) (λ q. refl) (λ q. mem_last c b l e)

-- at its end another character changes nothing
mem_other : (c b : ℕ) (l : List ℕ) → eqb b c ≡ false → mem_cp c (l ++ b ∷ []) ≡ mem_cp c l
unfolding mem_cp
mem_other c b [] e = rw (mem_cp, e)
mem_other c b (d ∷ l) e =
    by_bool (λ t. ◌≡◌ {A = Bool} (elim t [ true ↦ true | false ↦ mem_cp c (l ++ b ∷ []) ]) (elim t [ true ↦ true | false ↦ mem_cp c l ])) (eqb d c)
    (λ q. refl)
    (λ q. mem_other c b l e)

-- each entry of a table says whether its character is in the list
pub record Filled (table : List Bool) (l : List ℕ) : Type 0 where
  pub size : length table ≡ 128
  pub entry : (c : ℕ) → c < 128 → get_or table c false ≡ mem_cp c l

-- a table of no is filled from no characters
pub filled_start : Filled (replicate 128 false) []
unfolding mem_cp
filled_start = record { size = refl; entry = λ c h. get_or-replicate 128 c false false h }

module _ (table : List Bool) (l : List ℕ) (b : ℕ) (f : Filled table l) where
  -- a character below 128 sets its entry
  pub filled_set : b < 128 → Filled (set table b true) (l ++ b ∷ [])
  filled_set h = record {
    size = length-set table b true ∙ f.size;
    entry = λ c q.
        by_bool (λ t. get_or (set table b true) c false ≡ mem_cp c (l ++ b ∷ [])) (eqb b c)
        (λ e. same c e (eqb-true b c e))
        (λ e. get_or-set_other table b c true false (λ n. eqb-false b c e (sym n)) ∙ f.entry c q ∙ sym (mem_other c b l e));
  }
    where
      same : (c : ℕ) → eqb b c ≡ true → b ≡ c → get_or (set table b true) c false ≡ mem_cp c (l ++ b ∷ [])
      same c e q = rw (mem_last c b l e, ← q) (get_or-set_same table b true false (omega (arith, f.size)))

  -- a character of 128 or more has no entry
  pub filled_skip : 128 ≤ b → Filled table (l ++ b ∷ [])
  filled_skip h = record {
    size = f.size;
    entry = λ c q. f.entry c q ∙ sym (mem_other c b l (ne_eqb b c (λ e. omega arith)));
  }

-- the entries of a table that the definition counts up are its test of each number
counted : (test : ℕ → Bool) (k n i : ℕ) → i < n → get_or (map test (count_up k n)) i false ≡ test (k + i)
unfolding count_up
counted test k zero i h = absurd (not-suc-le-zero h)
counted test k (suc n) zero h = rw add-zero
counted test k (suc n) (suc i) h =
    let e : suc k + i ≡ k + suc i = omega arith in
    counted test (suc k) n i (le_of_suc-le-suc h) ∙ ap test e

-- entry c of the definition's table holds whether c is in the list
pub ascii_entry : (l : List ℕ) (c : ℕ) → c < 128 → get_or (ascii_table l) c false ≡ mem_cp c l
unfolding ascii_table
ascii_entry l c h = counted (λ d. mem_cp d l) 0 128 c h ∙ ap (λ (d : ℕ). mem_cp d l) (zero-add c)

-- it has 128 entries
pub ascii_size : (l : List ℕ) → length (ascii_table l) ≡ 128
unfolding ascii_table count_up
ascii_size l = refl

-- a table that is filled from a list is the definition's
pub filled_all : (table : List Bool) (l : List ℕ) → Filled table l → table ≡ ascii_table l
filled_all table l f =
    ext_get_or false table (ascii_table l) (f.size ∙ sym (ascii_size l))
    (λ c h. f.entry c (rw f.size at h) ∙ sym (ascii_entry l c (rw f.size at h)))

-- a loop that has filled a table from the first i characters fills it from one more
module _ (table : List Bool) (chars : List ℕ) (i : ℕ) (f : Filled table (take i chars)) (h : i < length chars) where
  pub filled_next : get_or chars i 0 < 128 → Filled (set table (get_or chars i 0) true) (take (i + 1) chars)
  filled_next q = rw (add-one, take-suc chars i 0) (filled_set table (take i chars) (get_or chars i 0) f q)

  pub filled_past : 128 ≤ get_or chars i 0 → Filled table (take (i + 1) chars)
  filled_past q = rw (add-one, take-suc chars i 0) (filled_skip table (take i chars) (get_or chars i 0) f q)
