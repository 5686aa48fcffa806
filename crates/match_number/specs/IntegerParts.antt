-- Parts of the definition's matchers of integers that have a function of their own. The proofs of the matchers show that these are the
-- definition's own words.
use Rattle.std.specs.Prelude.{ℕ, ◌+◌, ◌||◌, eqb, Option}
use Rattle.definition.specs.Basics.{Bytes, ch}
use Rattle.definition.specs.Text.{byte_has}
use Rattle.definition.specs.Matchers.{only, match_lit, match_integer, match_xinteger}
use Rattle.match_number.specs.declared.IntegerEnds.{IntegerEnds}

-- both ends of an integer
abbrev pub integer_ends : Bytes → ℕ → IntegerEnds
integer_ends s i = record { plain = match_integer s i; based = match_xinteger s i }

-- u or U and a word, after an integer that ends at e
unfoldable pub usuffix : Bytes → Bytes → ℕ → Option ℕ
usuffix s word e = only (byte_has (λ c. eqb c (ch "u") || eqb c (ch "U")) s e) (match_lit s word (e + 1))
