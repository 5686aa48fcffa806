-- What a move adds to the literal, where it ends, and what is known of both. s is the text.
use Rattle.std.specs.Prelude.{ℕ, ◌-◌, ◌≤◌, ◌<◌, [], length}
use Rattle.definition.specs.Basics.{Bytes}
use Rattle.definition.specs.Utf8.{encode}
use Rattle.definition.specs.Text.{lexeme}
use Rattle.read_string.specs.declared.moves.Move.{Move}
use Rattle.read_string.specs.declared.moves.Move.TheVariants.{Copy, Skip, Line, Char, Surrogate, Close, Open}

-- the bytes that a move at byte i adds
abbrev pub adds : Bytes → ℕ → Move → Bytes
adds s i (Copy e) = lexeme s i e
adds s i (Skip e) = []
adds s i (Line e) = lexeme s i e
adds s i (Char c e) = encode c
adds s i Surrogate = []
adds s i (Close e) = []
adds s i Open = []

-- how many they are
abbrev pub added : ℕ → Move → ℕ
added i (Copy e) = e - i
added i (Skip e) = 0
added i (Line e) = e - i
added i (Char c e) = length (encode c)
added i Surrogate = 0
added i (Close e) = 0
added i Open = 0

-- where a move from byte i ends
abbrev pub ends_at : ℕ → Move → ℕ
ends_at i (Copy e) = e
ends_at i (Skip e) = e
ends_at i (Line e) = e
ends_at i (Char c e) = e
ends_at i Surrogate = i
ends_at i (Close e) = e
ends_at i Open = i

-- the literal goes on after a move
abbrev pub On : Move → Type 0
On (Copy e) = Unit {0}
On (Skip e) = Unit {0}
On (Line e) = Unit {0}
On (Char c e) = Unit {0}
On Surrogate = ⊥
On (Close e) = ⊥
On Open = ⊥

-- e is after i and within the text
pub record Past (s : Bytes) (i e : ℕ) : Type 0 where
  pub past : i < e
  pub within : e ≤ length s

-- c has bytes, fewer than there are from i up to e
pub record Fewer (i c e : ℕ) : Type 0 where
  pub small : c ≤ 0x10FFFF
  pub fewer : length (encode c) < e - i

-- what a move from i ends at
abbrev pub Goes : Bytes → ℕ → Move → Type 0
Goes s i (Copy e) = Past s i e
Goes s i (Skip e) = Past s i e
Goes s i (Line e) = Past s i e
Goes s i (Char c e) = Past s i e × Fewer i c e
Goes s i Surrogate = Unit {0}
Goes s i (Close e) = Past s i e
Goes s i Open = Unit {0}
