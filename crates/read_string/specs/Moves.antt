-- What stands at an offset of a literal, in the definition's order.
use Rattle.std.specs.Prelude.{ℕ, ◌+◌, true, false, ltb, leb, length, Option, Some, None}
use Rattle.definition.specs.Basics.{Bytes, ch}
use Rattle.definition.specs.Text.{byte_is, star, run_end}
use Rattle.definition.specs.Chars.{is_anywhite}
use Rattle.definition.specs.Matchers.{only, match_newline, match_escape}
use Rattle.definition.specs.Escapes.{unescape, is_surrogate, is_high_half, joined}
use Rattle.definition.specs.Strings.{string_stop, match_low_half}
use Rattle.read_string.specs.declared.moves.Move.{Move}
use Rattle.read_string.specs.declared.moves.Move.TheVariants.{Copy, Skip, Line, Char, Surrogate, Close, Open}

-- the surrogate c, whose escape ends at e: a high half and a low one at once after it are a character, any other surrogate is none
unfoldable pub surrogate_move : Bytes → ℕ → ℕ → Move
surrogate_move s c e =
    elim (only (is_high_half c) (match_low_half s e)) [ Some pair_end ↦ Char (joined c (unescape s e)) pair_end | None ↦ Surrogate ]

-- an escape that ends at e
unfoldable pub escape_move : Bytes → ℕ → ℕ → Move
escape_move s i e = elim (is_surrogate (unescape s i)) [ true ↦ surrogate_move s (unescape s i) e | false ↦ Char (unescape s i) e ]

-- the quote, the text's end, or a lone byte
unfoldable pub last_move : Bytes → ℕ → Move
last_move s i =
    elim (byte_is (ch "\"") s i) [
      | true ↦ Close (i + 1)
      | false ↦ elim (leb (length s) i) [ true ↦ Open | false ↦ Copy (i + 1) ]
    ]

unfoldable pub stop_move : Bytes → ℕ → Move
stop_move s i =
    elim (match_newline s i) [
      | Some nl ↦ Line nl
      | None ↦ elim (match_escape s i) [ Some e ↦ escape_move s i e | None ↦ last_move s i ]
    ]

-- a backslash and a line's end
abbrev pub broken_line : Bytes → ℕ → Option ℕ
broken_line s i = only (byte_is (ch "\\") s i) (match_newline s (i + 1))

unfoldable pub string_move : Bytes → Bytes → ℕ → Move
string_move s f i =
    elim (ltb i (run_end string_stop s i)) [
      | true ↦ Copy (run_end string_stop s i)
      | false ↦ elim (broken_line s i) [
        | Some nl ↦ Skip (star (is_anywhite f) s nl)
        | None ↦ stop_move s i
      ]
    ]
