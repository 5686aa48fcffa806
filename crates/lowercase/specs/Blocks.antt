-- The letters of a block of 64 code points as the bits of a number.
use Rattle.std.specs.Prelude.{ℕ, zero, suc, ◌+◌, ◌*◌, ◌≡◌, Bool, true, false, Option, Some, None}
use Rattle.definition.specs.Lowercase.{is_ll}

-- a test's answer as a bit
abbrev pub as_bit : Bool → ℕ
as_bit true = 1
as_bit false = 0

-- which of the n code points from c on pass a test, the lowest bit standing for c
unfoldable pub letters : (ℕ → Bool) → ℕ → ℕ → ℕ
letters test zero c = 0
letters test (suc n) c = as_bit (test c) + 2 * letters test n (suc c)

-- what is told of block k are its letters
abbrev pub Tells : ℕ → Option ℕ → Type 0
Tells k (Some w) = w ≡ letters is_ll 64 (64 * k)
Tells k None = Unit {0}
