-- UTF-8 by RFC 3629: the bytes of a code point, legal texts, and the legal sequence that stands at an offset.
use Rattle.std.specs.Prelude.{ℕ, ◌+◌, ◌-◌, ◌*◌, ◌/◌, ◌%◌, ◌≤◌, ◌<◌, ◌≡◌, true, false, List, [], ◌∷◌, ◌++◌, ◌⊎◌, ltb, length, get_or, take, if◌then◌else◌}
use Rattle.definition.specs.Basics.{Bytes}
use Rattle.definition.specs.declared.Sequence.{Sequence}
use Rattle.definition.specs.declared.Sequence.TheVariants.{Char, Bad, End}

-- ---- encoding (section 3 of the RFC)

unfoldable pub encode : ℕ → Bytes
encode c =
    if ltb c 0x80 then c ∷ [] else
    if ltb c 0x800 then (0xC0 + c / 64) ∷ (0x80 + c % 64) ∷ [] else
    if ltb c 0x10000 then (0xE0 + c / 4096) ∷ (0x80 + c / 64 % 64) ∷ (0x80 + c % 64) ∷ [] else
    (0xF0 + c / 262144) ∷ (0x80 + c / 4096 % 64) ∷ (0x80 + c / 64 % 64) ∷ (0x80 + c % 64) ∷ []

-- a Unicode scalar value: up to 10FFFF, and no surrogate
pub record Scalar (c : ℕ) : Type 0 where
  pub small : c ≤ 0x10FFFF
  pub no_surrogate : (c < 0xD800) ⊎ (0xE000 ≤ c)

abbrev pub Scalars : List ℕ → Type 0
Scalars [] = Unit {0}
Scalars (c ∷ cs) = Scalar c × Scalars cs

unfoldable pub encode_all : List ℕ → Bytes
encode_all [] = []
encode_all (c ∷ cs) = encode c ++ encode_all cs

-- s is the encoding of scalar values
pub record Legal (s : Bytes) : Type 0 where
  pub chars : List ℕ
  pub scalars : Scalars chars
  pub bytes : s ≡ encode_all chars

-- a character of s starts at i, or s ends there: what stands before i is the encoding of scalar values
pub record Boundary (s : Bytes) (i : ℕ) : Type 0 where
  pub within : i ≤ length s
  pub before : Legal (take i s)

-- ---- decoding: each code point by its shortest sequence alone, no surrogate, nothing above 10FFFF

-- the six bits of a byte 80 to BF, which continues a sequence; 64 for any other
unfoldable pub tail_bits : ℕ → ℕ
tail_bits b = if ltb b 0x80 then 64 else if ltb b 0xC0 then b - 0x80 else 64

-- sequences of two, three and four bytes, from the bits of each byte
unfoldable pub two : ℕ → ℕ → Sequence
two x y = if ltb y 64 then Char (x * 64 + y) 2 else Bad

unfoldable pub three_bytes : ℕ → Sequence
three_bytes c = if ltb c 0x800 then Bad else if ltb c 0xD800 then Char c 3 else if ltb c 0xE000 then Bad else Char c 3

unfoldable pub three : ℕ → ℕ → ℕ → Sequence
three x y z = if ltb y 64 then if ltb z 64 then three_bytes (x * 4096 + y * 64 + z) else Bad else Bad

unfoldable pub four_bytes : ℕ → Sequence
four_bytes c = if ltb c 0x10000 then Bad else if ltb c 0x110000 then Char c 4 else Bad

unfoldable pub four : ℕ → ℕ → ℕ → ℕ → Sequence
four x y z t = if ltb y 64 then if ltb z 64 then if ltb t 64 then four_bytes (x * 262144 + y * 4096 + z * 64 + t) else Bad else Bad else Bad

-- what four bytes start with
unfoldable pub sequence : ℕ → ℕ → ℕ → ℕ → Sequence
sequence b₀ b₁ b₂ b₃ =
    if ltb b₀ 0x80 then Char b₀ 1 else
    if ltb b₀ 0xC2 then Bad else
    if ltb b₀ 0xE0 then two (b₀ - 0xC0) (tail_bits b₁) else
    if ltb b₀ 0xF0 then three (b₀ - 0xE0) (tail_bits b₁) (tail_bits b₂) else
    if ltb b₀ 0xF5 then four (b₀ - 0xF0) (tail_bits b₁) (tail_bits b₂) (tail_bits b₃) else
    Bad

-- what stands at i. Past the end `get_or` reads 0, which continues no sequence
unfoldable pub sequence_at : Bytes → ℕ → Sequence
sequence_at s i = elim (ltb i (length s)) [ true ↦ sequence (get_or s i 0) (get_or s (i + 1) 0) (get_or s (i + 2) 0) (get_or s (i + 3) 0) | false ↦ End ]
