-- `string_lit`.
use Rattle.std.specs.Prelude.{ℕ, ◌+◌, Bool, true, false, ◌||◌, [], ◌++◌, ltb, leb, eqb, length, Option, Some, None}
use Rattle.definition.specs.Basics.{Bytes, Turn, again, done, loop, fuel, ch}
use Rattle.definition.specs.Text.{byte_is, lexeme, star, run_end}
use Rattle.definition.specs.Chars.{is_newline_char, is_anywhite}
use Rattle.definition.specs.Position.{cur_pos}
use Rattle.definition.specs.Kinds.{kind}
use Rattle.definition.specs.Matchers.{only, match_newline, match_escape}
use Rattle.definition.specs.Escapes.{unescape, string_of_cp, is_surrogate, is_high_half, is_low_half, joined}
use Rattle.definition.specs.State.{advance, new_line}
use Rattle.definition.specs.Item.{Step, tok, error_here}
use Rattle.definition.specs.declared.Pos.{Pos}
use Rattle.definition.specs.declared.State.{State}
use Rattle.definition.specs.declared.Extra.TheVariants.{NoExtra}

unfoldable pub string_stop : ℕ → Bool
string_stop c = eqb c (ch "\\") || (eqb c (ch "\"") || is_newline_char c)

-- the escape of a low half
unfoldable pub match_low_half : Bytes → ℕ → Option ℕ
match_low_half s i = only (is_low_half (unescape s i)) (match_escape s i)

-- an escape that ends at e. Document 02: "In a string, `\u` D800 to DBFF followed at once by `\u` DC00 to DFFF is one character". Any other
-- surrogate is error 7, as document 01 has it, "its position and both ends of its range at the backslash", where st stands
unfoldable pub escape_turn : Bytes → State → Bytes → ℕ → Turn (State × Bytes) Step
escape_turn s st acc e =
    let c = unescape s st.offset in
    elim (is_surrogate c) [
      | true ↦ elim (only (is_high_half c) (match_low_half s e)) [
        | Some pair_end ↦ again (advance st pair_end, acc ++ string_of_cp (joined c (unescape s e)))
        | None ↦ done (error_here s st 7)
      ]
      | false ↦ again (advance st e, acc ++ string_of_cp c)
    ]

-- one call of `string_lit`: acc is the literal read so far; it began at byte `from`, whose position is sp
abbrev pub string_turn : Bytes → Bytes → ℕ → Pos → State × Bytes → Turn (State × Bytes) Step
string_turn s f from sp (st, acc) =
    let i = st.offset in
    let j = run_end string_stop s i in
    elim (ltb i j) [
      | true ↦ again (advance st j, acc ++ lexeme s i j)
      | false ↦ elim (only (byte_is (ch "\\") s i) (match_newline s (i + 1))) [
        | Some nl1 ↦ again (new_line (advance st (star (is_anywhite f) s nl1)), acc)
        | None ↦ elim (match_newline s i) [
          | Some nl ↦ again (new_line (advance st nl), acc ++ lexeme s i nl)
          | None ↦ elim (match_escape s i) [
            | Some esc ↦ escape_turn s st acc esc
            | None ↦ elim (byte_is (ch "\"") s i) [
              | true ↦ done (let st = advance st (i + 1) in tok (kind "STRING") acc from sp (cur_pos s st) NoExtra st)
              | false ↦ elim (leb (length s) i) [
                | true ↦ done (error_here s st 1)
                -- "`\` before a character that makes no escape stays in the string"
                | false ↦ again (advance st (i + 1), acc ++ lexeme s i (i + 1))
              ]
            ]
          ]
        ]
      ]
    ]

unfoldable pub string_lit : Bytes → Bytes → State → ℕ → Pos → Step
string_lit s f st from sp = loop (string_turn s f from sp) (λ a. error_here s a.0 1) (fuel s) (st, [])
