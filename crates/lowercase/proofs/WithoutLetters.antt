-- The blocks of `without_letters`: no range of the table meets those of an arm, which antt computes.
use Prim.Native.Nat.{ℕ, ◌*◌, ◌≤◌}
use mathlib.Core.Path.{◌≡◌, refl}
use Rattle.definition.specs.Lowercase.{ll_tbl, is_ll}
use Rattle.lowercase.specs.Blocks.{letters}
use Rattle.lowercase.proofs.BlockLaws.{empty_block}

pub empty_23 : (k : ℕ) → 23 ≤ k → k ≤ 66 → 0 ≡ letters is_ll 64 (64 * k)
unfolding ll_tbl
empty_23 k = empty_block 23 66 k refl

pub empty_128 : (k : ℕ) → 128 ≤ k → k ≤ 131 → 0 ≡ letters is_ll 64 (64 * k)
unfolding ll_tbl
empty_128 k = empty_block 128 131 k refl

pub empty_135 : (k : ℕ) → 135 ≤ k → k ≤ 175 → 0 ≡ letters is_ll 64 (64 * k)
unfolding ll_tbl
empty_135 k = empty_block 135 175 k refl

pub empty_181 : (k : ℕ) → 181 ≤ k → k ≤ 664 → 0 ≡ letters is_ll 64 (64 * k)
unfolding ll_tbl
empty_181 k = empty_block 181 664 k refl

pub empty_687 : (k : ℕ) → 687 ≤ k → k ≤ 1003 → 0 ≡ letters is_ll 64 (64 * k)
unfolding ll_tbl
empty_687 k = empty_block 687 1003 k refl
