-- Parts of the definition's matchers that have a function of their own. The proofs of the matchers show that these are the definition's
-- own words.
use Rattle.std.specs.Prelude.{ℕ, ◌+◌, Bool, not, ◌&&◌, eqb, Option, Some, None}
use Rattle.definition.specs.Basics.{Bytes, ch}
use Rattle.definition.specs.Text.{byte_has, byte_is}
use Rattle.definition.specs.Chars.{is_hex, is_newline_char}
use Rattle.definition.specs.Matchers.{only, one}

-- two hexadecimal digits at i
unfoldable pub hex_pair : Bytes → ℕ → Bool
hex_pair s i = byte_has is_hex s i && byte_has is_hex s (i + 1)

-- a character that a name in backticks may have
unfoldable pub in_backticks : ℕ → Bool
in_backticks c = not (eqb c (ch "`")) && not (is_newline_char c)

-- such a character, or one after a backtick
unfoldable pub backtick_part : Bytes → ℕ → Option ℕ
backtick_part s j = elim (one in_backticks s j) [ Some k ↦ Some k | None ↦ only (byte_is (ch "`") s j) (one in_backticks s (j + 1)) ]
