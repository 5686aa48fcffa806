-- Where a lexeme stands in a table of words, and the keys by which it is looked for.
use Rattle.std.specs.Prelude.{ℕ, suc, ◌+◌, ◌-◌, ◌%◌, ◌≤◌, ◌<◌, ◌≡◌, true, false, List, [], ◌∷◌, eqb, length, get_or, take, drop, Option, Some, None}
use Rattle.definition.specs.Basics.{Bytes, same}
use Rattle.table_words.specs.Words.{words}

-- the number of the first word that is the lexeme, the first word being numbered n
unfoldable pub place : ℕ → Bytes → List Bytes → Option ℕ
place n id [] = None
place n id (w ∷ ws) = elim (same w id) [ true ↦ Some n | false ↦ place (suc n) id ws ]

-- the key of a word
unfoldable pub key : Bytes → ℕ
key w = (get_or w 0 0 + get_or w (length w - 1) 0 + length w % 64) % 64

-- the number of the first word with a key, the first of the list being numbered n; the number after the last where there is none
unfoldable pub hop : ℕ → ℕ → List Bytes → ℕ
hop h n [] = n
hop h n (w ∷ ws) = elim (eqb (key w) h) [ true ↦ n | false ↦ hop h (suc n) ws ]

-- the place of a lexeme among the words from k up to stop
abbrev pub seek : Bytes → ℕ → ℕ → Option ℕ
seek id k stop = place k id (take (stop - k) (drop k words))

-- where start is a word, it has the lexeme's key
pub record Chain (id : Bytes) (start stop : ℕ) : Type 0 where
  pub ends : stop ≤ 119
  pub keyed : start < 119 → key (get_or words start []) ≡ key id
