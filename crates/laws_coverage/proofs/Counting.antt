-- Counting the parts that have a byte: an empty part has none, and two parts one behind the other have what the part from the first's
-- beginning to the second's end has. Rests on nothing but the tests' own laws.
use Prim.Native.Nat.{ℕ, ◌+◌, ◌≤◌, ◌<◌}
use mathlib.Core.Path.{◌≡◌}
use native.Mathlib.Omega.{arith}
use Rattle.lemmas.proofs.Cases.{by_order, all_tests}
use Rattle.laws_coverage.specs.Coverage.{in_part}

-- a byte of the part
pub inside : (b from to : ℕ) → from ≤ b → b < to → in_part b (from, to) ≡ 1
inside b from to h l = simp all_tests

-- one before it, and one past it
before : (b from to : ℕ) → b < from → in_part b (from, to) ≡ 0
before b from to h = simp all_tests

past : (b from to : ℕ) → to ≤ b → in_part b (from, to) ≡ 0
past b from to h = by_order b from (λ l. before b from to l) (λ l. simp all_tests)

-- an empty part
pub empty : (b i : ℕ) → in_part b (i, i) ≡ 0
empty b i = by_order b i (λ l. before b i i l) (λ l. past b i i l)

-- a part, and what stands behind it
pub joined : (b i j k : ℕ) → i ≤ j → j ≤ k → in_part b (i, j) + in_part b (j, k) ≡ in_part b (i, k)
joined b i j k h l =
    by_order b j
    (λ m. by_order b i
    (λ n. omega (arith, before b i j n, before b j k m, before b i k n))
    (λ n. omega (arith, inside b i j n m, before b j k m, inside b i k n (omega arith))))
    (λ m. by_order b k
    (λ n. omega (arith, past b i j m, inside b j k m n, inside b i k (omega arith) n))
    (λ n. omega (arith, past b i j m, past b j k n, past b i k n)))
