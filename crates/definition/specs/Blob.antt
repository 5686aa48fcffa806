-- `blob` and `use_lang`. The contents are the text's own bytes, from byte `from` on: `acc` holds them in chunks.
use Rattle.std.specs.Prelude.{ℕ, Bool, true, false, ◌||◌, ltb, leb, eqb, length, if◌then◌else◌, Some, None}
use Rattle.definition.specs.Basics.{Bytes, Turn, again, done, loop, fuel, ch}
use Rattle.definition.specs.Text.{lexeme, run_end, after}
use Rattle.definition.specs.Chars.{is_newline_char}
use Rattle.definition.specs.Tables.{cps}
use Rattle.definition.specs.Position.{cur_pos}
use Rattle.definition.specs.Kinds.{kind}
use Rattle.definition.specs.Matchers.{match_lit, match_newline}
use Rattle.definition.specs.State.{advance, new_line}
use Rattle.definition.specs.Item.{Step, blob_tok, error_here}
use Rattle.definition.specs.declared.Pos.{Pos}
use Rattle.definition.specs.declared.State.{State}

-- what a blob's header says: its name, the position after it, and its start, by its position and its byte. Document 02: "a blob at its
-- header"
pub record Header : Type 0 where
  pub name : Bytes
  pub pos : Pos
  pub snap : Pos
  pub start : ℕ

abbrev pub unterminated : Bytes → State → Step
unterminated s st = error_here s st 2

unfoldable pub blob_stop : ℕ → Bool
blob_stop c = eqb c (ch "`") || is_newline_char c

-- one call of `blob`
abbrev pub blob_turn : Bytes → ℕ → Header → State → Turn State Step
blob_turn s from h st =
    let i = st.offset in
    elim (match_lit s (cps "```") i) [
      | Some e ↦ done (
          let next = advance st e in
          blob_tok (kind "BLOB") h.name (lexeme s from i) h.start (cur_pos s st) (cur_pos s next) h.pos h.snap next)
      | None ↦ elim (leb (length s) i) [
        | true ↦ done (unterminated s st)
        | false ↦ elim (match_newline s i) [
          | Some nl ↦ again (new_line (advance st nl))
          | None ↦
              let j = run_end blob_stop s i in
              again (advance st (if ltb i j then j else after s i))
        ]
      ]
    ]

unfoldable pub blob : Bytes → Header → State → Step
blob s h st = loop (blob_turn s st.offset h) (unterminated s) (fuel s) st

-- one call of `use_lang`; it ends at the text's end alone. Before it a line end stands where the run of other characters ends, so
-- that the last arm, like `out` below, is never taken
abbrev pub lang_turn : Bytes → ℕ → Header → State → Turn State Step
lang_turn s from h st =
    let i = st.offset in
    let p = cur_pos s st in
    let j = run_end is_newline_char s i in
    elim (leb (length s) i) [
      | true ↦ done (blob_tok (kind "USE_LANG_BLOB") h.name (lexeme s from i) h.start p p h.pos h.snap st)
      | false ↦ elim (ltb i j) [
        | true ↦ again (advance st j)
        | false ↦ elim (match_newline s i) [ Some nl ↦ again (new_line (advance st nl)) | None ↦ done (unterminated s st) ]
      ]
    ]

unfoldable pub use_lang : Bytes → Header → State → Step
use_lang s h st = loop (lang_turn s st.offset h) (unterminated s) (fuel s) st
