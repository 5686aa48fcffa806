-- Parts of the definition's tests on characters that have a function of their own. The proofs of `is_ident_char` and
-- `is_anywhite` show that these are the definition's own words.
use Rattle.std.specs.Prelude.{ℕ, Bool, ◌||◌, eqb}
use Rattle.definition.specs.Basics.{ch, between}
use Rattle.definition.specs.Chars.{is_digit}

-- an ASCII character that may stand in an identifier
unfoldable pub ascii_ident_char : ℕ → Bool
ascii_ident_char c = between (ch "a") (ch "z") c || (between (ch "A") (ch "Z") c || (is_digit c || (eqb c (ch "'") || eqb c (ch "_"))))

-- a white character that is one whatever its class
unfoldable pub listed_white : ℕ → Bool
listed_white c = eqb c (ch " ") || (eqb c (ch "\t") || (eqb c 11 || (eqb c 12 || (eqb c 0xA0 || eqb c 0xFEFF))))
