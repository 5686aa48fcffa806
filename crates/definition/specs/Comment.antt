-- `comment` and `line_comment`. What the source does by recursion in `comment` is done here by the
-- state's depth: "closing an inner comment emits the comment accumulated so far", and so does the text's end, once for each
-- level. So a step gives one piece, and a later step goes on after it. "Comments come in closing order; `lex_all`
-- lists them reversed".
use Rattle.std.specs.Prelude.{ℕ, ◌+◌, Bool, true, false, ◌&&◌, ◌||◌, ◌++◌, ltb, leb, eqb, length, Some, None}
use Rattle.definition.specs.Basics.{Bytes, Turn, again, done, loop, fuel, ch}
use Rattle.definition.specs.Text.{byte_is, lexeme, run_end, after}
use Rattle.definition.specs.Chars.{is_newline_char}
use Rattle.definition.specs.Tables.{cps}
use Rattle.definition.specs.Position.{pos_of, cur_pos}
use Rattle.definition.specs.Matchers.{match_newline}
use Rattle.definition.specs.Trim.{maybe_trim_lines}
use Rattle.definition.specs.State.{advance, new_line, one_more_comment, deeper, close_comment}
use Rattle.definition.specs.Item.{Step, add_comment}
use Rattle.definition.specs.declared.State.{State}

unfoldable pub comment_stop : ℕ → Bool
comment_stop c = eqb c (ch "(") || (eqb c (ch "*") || is_newline_char c)

-- `terminate`: the piece that began at byte `from` and whose text ends at i. `buf` holds the chunks read since, which are
-- the text's own bytes; the reading stands after the piece. Document 02: "A comment's later piece starts where the last ended." "Of a
-- comment's unclosed pieces the first ends at the text's end and the others are empty there."
abbrev pub terminate : Bytes → ℕ → ℕ → Bool → State → Step
terminate s from i closed st =
    add_comment (maybe_trim_lines st.comment.col (lexeme s from i ++ cps "*)")) from st.comment (cur_pos s st) closed (close_comment st)

-- one call of `comment`
abbrev pub comment_turn : Bytes → ℕ → State → Turn State Step
comment_turn s from st =
    let i = st.offset in
    let j = run_end comment_stop s i in
    elim (ltb i j) [
      | true ↦ again (advance st j)
      | false ↦ elim (byte_is (ch "(") s i && byte_is (ch "*") s (i + 1)) [
        | true ↦ again (deeper (advance st (i + 2)))
        | false ↦ elim (match_newline s i) [
          | Some nl ↦ again (new_line (advance st nl))
          | None ↦ elim (byte_is (ch "*") s i && byte_is (ch ")") s (i + 1)) [
            | true ↦ done (terminate s from i true (advance st (i + 2)))
            | false ↦ elim (leb (length s) i) [
              | true ↦ done (terminate s from i false st)
              | false ↦ again (advance st (after s i))
            ]
          ]
        ]
      ]
    ]

-- the next piece of the comment that the state st is in, which began at byte `from`
unfoldable pub comment : Bytes → ℕ → State → Step
comment s from st = loop (comment_turn s from) (λ a. terminate s from a.offset false a) (fuel s) st

-- the rest of a line; `pre` is what of the comment stands before it, from byte `from` on. Document 02: "a line comment at its first slash"
unfoldable pub line_comment : Bytes → ℕ → Bytes → State → Step
line_comment s from pre st =
    let i = st.offset in
    let j = run_end is_newline_char s i in
    add_comment (pre ++ lexeme s i j) from (pos_of s st i) (pos_of s st j) true (one_more_comment (advance st j))
