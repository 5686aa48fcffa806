-- What a character says of the bytes under it: how many they are, that they lie within the text, which of them begin a character,
-- and that ASCII is one byte. Rests on the laws of UTF-8 (crate `utf8`).
use Prim.Native.Nat.{ℕ, ◌+◌, ◌≤◌, ◌<◌}
use mathlib.Core.Path.{◌≡◌, ◌∙◌, ap}
use native.Mathlib.Omega.{arith}
use lib.ListN.{length, get_or}
use borrow.Author.Tests.{lt-ltb}
use Rattle.definition.specs.Basics.{Bytes}
use Rattle.definition.specs.Utf8.{sequence, sequence_at}
use Rattle.definition.specs.Position.{is_continuation}
use Rattle.definition.specs.declared.Sequence.TheVariants.{Char}
use Rattle.lemmas.proofs.Cases.{between_true}
use Rattle.utf8.proofs.Character.{char_read, char_within}
use Rattle.utf8.proofs.EncodingLaws.{encode_1}
use Rattle.utf8.proofs.Boundaries.{char_continues}
use mathlib.Core.Bool.{true}

-- a byte that continues a character
pub record Tail (b : ℕ) : Type 0 where
  pub least : 0x80 ≤ b
  pub most : b < 0xC0

tail_of : (b : ℕ) → is_continuation b ≡ true → Tail b
unfolding is_continuation
tail_of b e =
    let h = between_true 0x80 0xBF b e in
    record { least = h.0; most = omega (arith, h.1) }

-- the bytes of the character at i: there are some, they are the text's, those after the first only continue it, and ASCII is one
pub record Spelled (s : Bytes) (i c w : ℕ) : Type 0 where
  pub some : 1 ≤ w
  pub within : i + w ≤ length s
  pub tails : (d : ℕ) → 0 < d → d < w → Tail (get_or s (i + d) 0)
  pub ascii : c < 0x80 → w ≡ 1

pub char_at : {s : Bytes} {i c w : ℕ} → sequence_at s i ≡ Char c w → Spelled s i c w
char_at {s} {i} {c} {w} e =
    let a = char_read e in
    record {
      some = (char_within a).0;
      within = (char_within a).1;
      tails = λ d h k. tail_of (get_or s (i + d) 0) (char_continues a (i + d) (omega arith) (omega arith));
      ascii = λ h. a.width ∙ ap length (encode_1 c h);
    }

-- a byte of ASCII is a character
pub ascii_at : (s : Bytes) (i : ℕ) → i < length s → get_or s i 0 < 0x80 → sequence_at s i ≡ Char (get_or s i 0) 1
unfolding sequence_at sequence
ascii_at s i h k = simp (lt-ltb _ _ h, lt-ltb _ _ k, sequence_at, sequence)
