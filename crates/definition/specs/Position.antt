-- Columns and positions: the source's `count_chars`, `col_of`, `pos_of` and `cur_pos`.
use Rattle.std.specs.Prelude.{ℕ, zero, suc, ◌+◌, ◌-◌, Bool, true, false, get_or}
use Rattle.definition.specs.Basics.{Bytes, between}
use Rattle.definition.specs.Utf8.{sequence_at}
use Rattle.definition.specs.Text.{with_char}
use Rattle.definition.specs.declared.Pos.{Pos}
use Rattle.definition.specs.declared.State.{State}

-- what a character counts in a column
abbrev pub Weight : Type 0
Weight = ℕ → ℕ

-- the lexer's own columns count characters
abbrev pub one_each : Weight
one_each c = 1

-- a byte 80 to BF, which continues a character and counts nothing
unfoldable pub is_continuation : ℕ → Bool
is_continuation b = between 0x80 0xBF b

-- what the byte at i counts: its character's weight where a character starts, else nothing
unfoldable pub weight_at : Weight → Bytes → ℕ → ℕ
weight_at w s i = elim (is_continuation (get_or s i 0)) [ true ↦ 0 | false ↦ w (with_char (sequence_at s i) i (λ c j. c) 0) ]

-- `count_chars`: n bytes from i on
unfoldable pub count_chars : Weight → Bytes → ℕ → ℕ → ℕ
count_chars w s i zero = 0
count_chars w s i (suc n) = weight_at w s i + count_chars w s (suc i) n

-- `col_of`: "the column at the line's start plus the bytes since then that aren't 128 to 191". The source's cache holds a
-- column that is known already; what it answers is the same. No offset before the line's start is ever asked for
unfoldable pub col_by : Weight → Bytes → State → ℕ → ℕ
col_by w s st i = st.column + count_chars w s st.bol (i - st.bol)

abbrev pub col_of : Bytes → State → ℕ → ℕ
col_of = col_by one_each

-- `pos_of`, `cur_pos`
abbrev pub pos_of : Bytes → State → ℕ → Pos
pos_of s st i = record { line = st.line; col = col_of s st i }

abbrev pub cur_pos : Bytes → State → Pos
cur_pos s st = pos_of s st st.offset
