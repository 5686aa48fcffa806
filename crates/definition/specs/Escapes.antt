-- Characters after a backslash: `unescape` and `string_of_cp`; surrogates.
use Rattle.std.specs.Prelude.{ℕ, ◌+◌, ◌-◌, ◌*◌, Bool, true, false, if◌then◌else◌}
use Rattle.definition.specs.Basics.{Bytes, ch, between}
use Rattle.definition.specs.Utf8.{sequence_at, encode}
use Rattle.definition.specs.Text.{with_char, byte_is, lexeme}
use Rattle.definition.specs.Numbers.{value_from}

-- the code point at i, where a character stands
unfoldable pub code_at : Bytes → ℕ → ℕ
code_at s i = with_char (sequence_at s i) i (λ c j. c) 0

-- `U.int_of_string ("0x" ^ lexeme st k (k + n))`
unfoldable pub hex_value : Bytes → ℕ → ℕ → ℕ
hex_value s k n = value_from 16 0 (lexeme s k (k + n))

-- "The character denoted by the (escaped) character at [i]"
unfoldable pub unescape : Bytes → ℕ → ℕ
unescape s i =
    let is : ℕ → Bool = λ b. byte_is b s (i + 1) in
    elim (byte_is (ch "\\") s i) [
      | false ↦ code_at s i
      | true ↦
          if is (ch "0") then 0 else
          if is (ch "b") then 8 else
          if is (ch "t") then 9 else
          if is (ch "n") then 10 else
          if is (ch "v") then 11 else
          if is (ch "f") then 12 else
          if is (ch "r") then 13 else
          if is (ch "u") then hex_value s (i + 2) 4 else
          if is (ch "x") then hex_value s (i + 2) 2 else
          code_at s (i + 1)
    ]

-- `string_of_cp`, of a character
abbrev pub string_of_cp : ℕ → Bytes
string_of_cp c = encode c

-- ---- surrogates: numbers that `\u`, and no other escape, can give and that are no characters. Document 01 has each in a string as
-- error 7; document 02, K1, joins a high half, D800 to DBFF, and a low half, DC00 to DFFF, to one character

unfoldable pub is_surrogate : ℕ → Bool
is_surrogate c = between 0xD800 0xDFFF c

unfoldable pub is_high_half : ℕ → Bool
is_high_half c = between 0xD800 0xDBFF c

unfoldable pub is_low_half : ℕ → Bool
is_low_half c = between 0xDC00 0xDFFF c

-- the character of a high and a low half: "`\uD83D\uDE00` is U+1F600"
abbrev pub joined : ℕ → ℕ → ℕ
joined h l = 0x10000 + (h - 0xD800) * 1024 + (l - 0xDC00)
