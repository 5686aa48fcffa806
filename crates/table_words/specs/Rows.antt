-- The definition's tables as rows of a number and a word: trying some of them in turn, the first that fits, and those that may stand
-- where a byte does.
use Rattle.std.specs.Prelude.{ℕ, zero, suc, Bool, true, false, ◌&&◌, List, [], ◌∷◌, ◌++◌, map, eqb, take, replicate, Option, Some, None}
use Prim.Native.String.{String}
use Rattle.definition.specs.Basics.{Bytes}
use Rattle.definition.specs.Tables.{cps, op_tokens, words_of}
use Rattle.definition.specs.Matchers.{match_lit}
use Rattle.definition.specs.Select.{keep, found}
use Rattle.definition.specs.declared.Choice.{Choice}

-- a word and its number in its table
abbrev pub Row : Type 0
Row = ℕ × Bytes

-- the rows of a table whose first word is numbered w
abbrev pub numbered : ℕ → List String → List Row
numbered w [] = []
numbered w (e ∷ es) = (w, cps e) ∷ numbered (suc w) es

-- a word in a row of n bytes
abbrev pub pad : ℕ → Bytes → Bytes
pad n w = take n (w ++ replicate n 0)

-- the words in rows of n bytes
abbrev pub padded : ℕ → List Row → List Bytes
padded n rs = map (λ (r : Row). pad n r.1) rs

-- each row is tried in turn, as the definition's `try_words` tries the words of a table
unfoldable pub try_rows : ℕ → ℕ → (Bytes → Option ℕ) → List Row → Choice → Choice
try_rows i place m [] best = best
try_rows i place m (r ∷ rs) best = try_rows i place m rs (keep best (found i place r.0 (m r.1)))

-- how many rows there are before the first whose word stands at i
unfoldable pub first_fit : Bytes → ℕ → List Row → ℕ
first_fit s i [] = zero
first_fit s i (r ∷ rs) = elim (match_lit s r.1 i) [ Some e ↦ zero | None ↦ suc (first_fit s i rs) ]

-- the rows that pass a test
abbrev pub only_rows : (Row → Bool) → List Row → List Row
only_rows q [] = []
only_rows q (r ∷ rs) = elim (q r) [ true ↦ r ∷ only_rows q rs | false ↦ only_rows q rs ]

-- a word may stand where the byte b does
abbrev pub starts_with : ℕ → Bytes → Bool
starts_with b [] = true
starts_with b (c ∷ l) = eqb c b

-- a word may stand where the bytes a and b do
abbrev pub starts_two : ℕ → ℕ → Bytes → Bool
starts_two a b [] = true
starts_two a b (c ∷ []) = eqb c a
starts_two a b (c ∷ d ∷ l) = eqb c a && eqb d b

-- the operator tokens that may stand where the byte b does
abbrev pub tokens_at : ℕ → List Row
tokens_at b = only_rows (λ r. starts_with b r.1) (numbered 0 (words_of op_tokens))
