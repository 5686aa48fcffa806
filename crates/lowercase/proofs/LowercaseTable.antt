-- The built-in table of lowercase ranges: that it ascends and never overlaps is one test, which antt computes, and its
-- flat form has the ranges' numbers in pairs. Rests on the definition's `ll_tbl`, which is the source's text decoded.
-- Assumes nothing.
use Prim.Native.Nat.{ℕ, zero, suc, ◌+◌, ◌*◌}
use mathlib.Core.Path.{◌≡◌, refl}
use mathlib.Core.Bool.{true}
use mathlib.Core.List.{List, [], ◌∷◌}
use native.Mathlib.Omega.{arith}
use lib.ListN.{length, get_or}
use Rattle.definition.specs.ClassFile.{Range, ascending}
use Rattle.definition.specs.Lowercase.{ll_tbl, flat}
use Rattle.definition.proofs.Tables.{ll_ascending}
use Rattle.class_file.specs.Ends.{first_at, last_at}

-- the one test over the whole table; `each_legal` and `apart` are its rule at each range
pub ll_ascends : ascending 0 ll_tbl ≡ true
ll_ascends = ll_ascending

-- the table has 664 ranges
pub ll_ranges_count : length ll_tbl ≡ 664
unfolding ll_tbl
ll_ranges_count = refl

-- in a flat table the first code point of range i stands at 2 * i
pub flat_first : (rs : List Range) (i : ℕ) → get_or (flat rs) (2 * i) 0 ≡ first_at rs i
unfolding flat
flat_first [] i = refl
flat_first ((a, b) ∷ rs) zero = refl
flat_first ((a, b) ∷ rs) (suc i) =
    let e : 2 * suc i ≡ suc (suc (2 * i)) = omega arith in
    rw e (flat_first rs i)

-- and its last after that
pub flat_last : (rs : List Range) (i : ℕ) → get_or (flat rs) (2 * i + 1) 0 ≡ last_at rs i
unfolding flat
flat_last [] i = refl
flat_last ((a, b) ∷ rs) zero = refl
flat_last ((a, b) ∷ rs) (suc i) =
    let e : 2 * suc i + 1 ≡ suc (suc (2 * i + 1)) = omega arith in
    rw e (flat_last rs i)
