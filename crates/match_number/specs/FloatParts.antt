-- Parts of the definition's matchers of floats and of numbers that go wrong that have a function of their own. The proofs of the matchers
-- show that these are the definition's own words.
use Rattle.std.specs.Prelude.{ℕ, ◌+◌, Option, Some}
use Rattle.definition.specs.Basics.{Bytes, ch}
use Rattle.definition.specs.Text.{byte_has, byte_is, star}
use Rattle.definition.specs.Chars.{is_digit, is_ident_char}
use Rattle.definition.specs.Matchers.{◌then◌, later, only, plus, skip_sign, is_e}

-- the byte b, after what ends at j
unfoldable pub byte_end : ℕ → Bytes → ℕ → Option ℕ
byte_end b s j = only (byte_is b s j) (Some (j + 1))

-- a point
abbrev pub point : Bytes → ℕ → Option ℕ
point = byte_end (ch ".")

-- a point and digits
unfoldable pub fraction : Bytes → ℕ → Option ℕ
fraction s j = only (byte_is (ch ".") s j) (Some (star is_digit s (j + 1)))

-- an R
abbrev pub real_end : Bytes → ℕ → Option ℕ
real_end = byte_end (ch "R")

-- an exponent of one digit
unfoldable pub short_exponent : Bytes → ℕ → Option ℕ
short_exponent s k = only (byte_has is_e s k) (only (byte_has is_digit s (skip_sign s (k + 1))) (Some (skip_sign s (k + 1) + 1)))

-- the shortest float with an exponent, after digits or after a fraction
unfoldable pub short_float : Bytes → Option ℕ → Option ℕ → Option ℕ
short_float s digits float = later (digits then short_exponent s) (float then short_exponent s)

-- identifier characters after digits, after the point there, or after the shortest exponent
unfoldable pub bad_number_at_ends : Bytes → Bytes → Option ℕ → Option ℕ → Option ℕ
bad_number_at_ends s f digits float =
    let wrong : Option ℕ → Option ℕ = λ m. m then plus (is_ident_char f) s in
    later (wrong digits) (later (wrong (digits then point s)) (wrong (short_float s digits float)))
