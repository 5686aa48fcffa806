-- Trimming byte by byte: the width that a piece's lines leave, the bytes that stay, and what is asked of the functions over them.
use Rattle.std.specs.Prelude.{ℕ, ◌+◌, ◌-◌, ◌≤◌, ◌<◌, ◌≡◌, Bool, true, false, ◌||◌, [], ◌∷◌, ◌++◌, ltb, eqb, length, set}
use Rattle.definition.specs.Basics.{Bytes, ch}
use Rattle.definition.specs.Text.{lexeme}
use Rattle.definition.specs.Tables.{cps}
use Rattle.reader.specs.Described.{trimmed}
use Rattle.trim_lines.specs.declared.Margin.{Margin}

-- a piece of a comment, as `terminate` makes it of the text's bytes
abbrev pub piece : Bytes → ℕ → ℕ → Bytes
piece s from to = lexeme s from to ++ cps "*)"

-- ---- the width

-- the margin after one byte more: a line end begins a line, a space is counted, and any other byte decides the line
unfoldable pub narrow : Margin → ℕ → Margin
narrow m b =
    elim (eqb b (ch "\n")) [
      | true ↦ record { width = m.width; spaces = 0 }
      | false ↦ elim (ltb m.width m.spaces) [
        | true ↦ m
        | false ↦ elim (eqb b (ch " ")) [
          | true ↦ record { width = m.width; spaces = m.spaces + 1 }
          | false ↦ record { width = m.spaces; spaces = m.spaces + 1 }
        ]
      ]
    ]

-- the width that some bytes leave
unfoldable pub width_of : Margin → Bytes → ℕ
width_of m [] = m.width
width_of m (b ∷ l) = width_of (narrow m b) l

-- the width that a byte leaves which is neither a line end nor a space
unfoldable pub narrowest : Margin → ℕ
narrowest m = elim (ltb m.width m.spaces) [ true ↦ m.width | false ↦ m.spaces ]

-- ---- the bytes that stay

-- a line end stays, and so does what its line has lost enough for
unfoldable pub keeps : ℕ → ℕ → Bool
keeps left b = eqb b (ch "\n") || eqb left 0

-- how many bytes the line still loses
unfoldable pub left_after : ℕ → ℕ → ℕ → ℕ
left_after width left b = elim (eqb b (ch "\n")) [ true ↦ width | false ↦ left - 1 ]

-- the bytes that stay, where the first line still loses `left` and each other `width`
unfoldable pub kept : ℕ → ℕ → Bytes → Bytes
kept width left [] = []
kept width left (b ∷ l) =
    elim (keeps left b) [
      | true ↦ b ∷ kept width (left_after width left b) l
      | false ↦ kept width (left_after width left b) l
    ]

abbrev pub one_if : Bool → ℕ
one_if true = 1
one_if false = 0

-- ---- what is asked

-- `to` is an offset of a text that is not too long
pub record Short (s : Bytes) (to : ℕ) : Type 0 where
  pub within : to ≤ length s
  pub short : length s ≤ 1048576

-- a buffer has room for the trimmed piece
pub record Room (s : Bytes) (from to width : ℕ) (out : Bytes) : Type 0 where
  pub within : to ≤ length s
  pub room : length (trimmed width (piece s from to)) ≤ length out

-- a byte that stays has a place in the buffer
abbrev pub Fits : ℕ → ℕ → ℕ → Bytes → Type 0
Fits left b at out = keeps left b ≡ true → at < length out

-- a byte was written to a place of a buffer if it stays; `place` is the place after it
pub record Puts (stays : Bool) (b at : ℕ) (before after : Bytes) (place : ℕ) : Type 0 where
  pub bytes : after ≡ elim stays [ true ↦ set before at b | false ↦ before ]
  pub next : place ≡ at + one_if stays
