-- The bytes of a character, by how many they are. Rests on nothing but the definition.
use Prim.Native.Nat.{ℕ, ◌+◌, ◌/◌, ◌%◌, ◌≤◌, ◌<◌}
use mathlib.Core.Path.{◌≡◌, ap}
use mathlib.Core.List.{List, [], ◌∷◌}
use native.Mathlib.Omega.{arith}
use Rattle.definition.specs.Utf8.{encode}
use lib.ListN.{length}
use Rattle.lemmas.proofs.Cases.{tests}
use Rattle.utf8.specs.Asks.{Encodes}

-- A code point below 80 is one byte.
pub encode_1 : (c : ℕ) → c < 0x80 → encode c ≡ c ∷ []
unfolding encode
encode_1 c h = simp tests

-- One from 80 to 7FF is two.
pub encode_2 : (c : ℕ) → 0x80 ≤ c → c < 0x800 → encode c ≡ (0xC0 + c / 64) ∷ (0x80 + c % 64) ∷ []
unfolding encode
encode_2 c h k = simp tests

-- One from 800 to FFFF is three.
pub encode_3 : (c : ℕ) → 0x800 ≤ c → c < 0x10000 → encode c ≡ (0xE0 + c / 4096) ∷ (0x80 + c / 64 % 64) ∷ (0x80 + c % 64) ∷ []
unfolding encode
encode_3 c h k =
    let h₁ : 0x80 ≤ c = omega arith in
    simp tests

-- Any other is four.
pub encode_4 : (c : ℕ) → 0x10000 ≤ c → encode c ≡ (0xF0 + c / 262144) ∷ (0x80 + c / 4096 % 64) ∷ (0x80 + c / 64 % 64) ∷ (0x80 + c % 64) ∷ []
unfolding encode
encode_4 c h =
    let h₁ : 0x80 ≤ c = omega arith in
    let h₂ : 0x800 ≤ c = omega arith in
    simp tests

-- ---- the buffer has room for them

module _ {c : ℕ} {out : List ℕ} (e : Encodes c out) where
  pub room_one : c < 0x80 → 1 ≤ length out
  room_one h = omega (arith, e.room, ap length (encode_1 c h))

  pub room_two : 0x80 ≤ c → c < 0x800 → 2 ≤ length out
  room_two h k = omega (arith, e.room, ap length (encode_2 c h k))

  pub room_three : 0x800 ≤ c → c < 0x10000 → 3 ≤ length out
  room_three h k = omega (arith, e.room, ap length (encode_3 c h k))

  pub room_four : 0x10000 ≤ c → 4 ≤ length out
  room_four h = omega (arith, e.room, ap length (encode_4 c h))
