-- How long the words of a list are, and the test by first byte and length that no keyword fails.
use Rattle.std.specs.Prelude.{ℕ, ◌+◌, ◌/◌, ◌%◌, ◌^◌, Bool, true, false, List, [], ◌∷◌, eqb, leb, ltb, length, get_or, if◌then◌else◌}
use Rattle.definition.specs.Basics.{Bytes}
use Rattle.definition.specs.Tables.{keywords}
use Rattle.table_words.specs.Words.{spelled}

-- bit n of a number
abbrev pub bit : ℕ → ℕ → Bool
bit m n = eqb (m / 2 ^ n % 2) 1

-- the number with bit n set
unfoldable pub with_bit : ℕ → ℕ → ℕ
with_bit m n = if bit m n then m else m + 2 ^ n

-- the lengths of the words that begin with a byte, a bit for each
unfoldable pub lengths : ℕ → List Bytes → ℕ
lengths b [] = 0
lengths b (w ∷ ws) = elim (eqb (get_or w 0 0) b) [ true ↦ with_bit (lengths b ws) (length w) | false ↦ lengths b ws ]

-- A lexeme may be a keyword: it has the length of one that begins with its first byte. One that begins beyond ASCII passes, and none is longer
-- than 31 bytes.
unfoldable pub may_be_keyword : Bytes → Bool
may_be_keyword id = if ltb 31 (length id) then false else (if leb 128 (get_or id 0 0) then true else bit (lengths (get_or id 0 0) (spelled keywords)) (length id))
