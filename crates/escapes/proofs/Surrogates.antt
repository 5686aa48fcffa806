-- What is known of surrogates: where the halves of a pair lie, how large the number is that they are joined to, and how many bytes the
-- number of one would have. Rests on the laws of tests (crate `lemmas`) and of UTF-8.
use Prim.Native.Nat.{ℕ, ◌≤◌}
use mathlib.Core.Path.{◌≡◌}
use mathlib.Core.Bool.{true}
use native.Mathlib.Omega.{arith}
use lib.ListN.{length}
use Rattle.definition.specs.Basics.{Bytes}
use Rattle.definition.specs.Utf8.{encode}
use Rattle.definition.specs.Escapes.{is_surrogate, is_high_half, is_low_half, joined}
use Rattle.lemmas.proofs.Cases.{between_true}
use Rattle.utf8.proofs.Character.{by_size}
use Rattle.escapes.specs.Asks.{Halves}

module _ {h l : ℕ} (p : Halves h l) where
  -- the first half
  pub high_within : (0xD800 ≤ h) × (h ≤ 0xDBFF)
  unfolding is_high_half
  high_within = between_true 0xD800 0xDBFF h p.high

  -- the second
  pub low_within : (0xDC00 ≤ l) × (l ≤ 0xDFFF)
  unfolding is_low_half
  low_within = between_true 0xDC00 0xDFFF l p.low

  -- what they are joined to is at most the greatest character
  pub joined_small : joined h l ≤ 0x10FFFF
  joined_small = omega (arith, high_within.0, high_within.1, low_within.0, low_within.1)

-- a surrogate would have three bytes or more
pub surrogate_bytes : (c : ℕ) → is_surrogate c ≡ true → 3 ≤ length (encode c)
unfolding is_surrogate
surrogate_bytes c t =
    let h = between_true 0xD800 0xDFFF c t in
    by_size (λ (l : Bytes). 3 ≤ length l) c
    (λ k. absurd (omega (arith, h.0))) (λ _ k. absurd (omega (arith, h.0))) (λ _ _. omega arith) (λ _. omega arith)
