-- What the functions ask for and give. s is the text.
use Rattle.std.specs.Prelude.{ℕ, ◌+◌, ◌-◌, ◌≤◌, ◌≡◌, true, false, List, [], ◌∷◌, ◌⊎◌, ltb, length, get_or}
use Rattle.std.proofs.lemmas.List.Edits.{sets}
use Rattle.definition.specs.Basics.{Bytes}
use Rattle.definition.specs.Utf8.{sequence_at}
use Rattle.definition.specs.Text.{with_char}
use Rattle.definition.specs.Position.{Weight}
use Rattle.definition.specs.Utf16.{utf16}
use Rattle.definition.specs.declared.Pos.{Pos}
use Rattle.utf16_positions.specs.declared.LineStart.{LineStart}
use Rattle.utf16_positions.specs.declared.Place.{Place}
use Rattle.utf16_positions.specs.declared.Tally.{Tally}
use Rattle.utf16_positions.specs.declared.places.CharSize.{CharSize}
use Rattle.utf16_positions.specs.Places.{first_place, place_at, Begins, Tallied}

-- ---- places

-- the bytes of the character at i, and its weight
unfoldable pub size_at : Weight → Bytes → ℕ → CharSize
size_at w s i = with_char (sequence_at s i) i (λ c j. record { bytes = j - i; units = w c }) (record { bytes = 0; units = 0 })

-- a place that may be counted on from: its units are at most a line start's and the bytes before it
pub record OnFrom (s : Bytes) (p : Place) : Type 0 where
  pub short : length s ≤ 1048576
  pub within : p.off ≤ length s
  pub small : p.units ≤ 1000000 + p.off

-- p is the line's start, or a place of the line that is known and not past the column
abbrev pub From : Tally → LineStart → ℕ → Place → Type 0
From t l col p = (p ≡ first_place l) ⊎ ((t.start ≡ l) × (t.place.col ≤ col) × (p ≡ t.place))

-- a line, and its place at a column
abbrev pub tally_at : Bytes → LineStart → ℕ → Tally
tally_at s l col = record { start = l; place = place_at utf16 s (first_place l) col }

-- ---- positions

-- both lines of an item's positions, and a place that is known
pub record Lines (s : Bytes) (here next : LineStart) (t : Tally) : Type 0 where
  pub here_begins : Begins s here
  pub next_begins : Begins s next
  pub tallied : Tallied s t

-- the two words of a position, whose line is 1 or more
pub record Position (r : List ℕ) : Type 0 where
  pub size : length r ≡ 2
  pub line : 1 ≤ get_or r 0 0

-- the position whose line is word j
abbrev pub pos_at : List ℕ → ℕ → Pos
pos_at r j = record { line = get_or r j 0; col = get_or r (j + 1) 0 }

-- the two words of a position
abbrev pub pos_words : Pos → List ℕ
pos_words p = p.line ∷ p.col ∷ []

-- the two words of a position, counted again by q
abbrev pub again : (Pos → Pos) → List ℕ → List ℕ
again q r = pos_words (q (pos_at r 0))

-- a record whose position at word j is counted again by q
abbrev pub again_at : (Pos → Pos) → ℕ → List ℕ → List ℕ
again_at q j r = sets r j (pos_words (q (pos_at r j)))

-- a record whose positions of a blob or an error are counted again by q
abbrev pub extra_again : (Pos → Pos) → List ℕ → List ℕ
extra_again q r = elim (ltb 1 (get_or r 9 0)) [ true ↦ again_at q 11 (again_at q 13 r) | false ↦ r ]

-- words were counted again as f does it, and a place of a line is known
pub record Again (s : Bytes) (f : List ℕ → List ℕ) (r : List ℕ) (t : Tally) (r' : List ℕ) : Type 0 where
  pub tallied : Tallied s t
  pub is : r' ≡ f r
