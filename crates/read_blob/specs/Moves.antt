-- What stands at an offset of a blob, in the definition's order.
use Rattle.std.specs.Prelude.{ℕ, Bool, true, false, ltb, leb, length, if◌then◌else◌, Some, None}
use Rattle.definition.specs.Basics.{Bytes}
use Rattle.definition.specs.Chars.{is_newline_char}
use Rattle.definition.specs.Tables.{cps}
use Rattle.definition.specs.Matchers.{match_lit, match_newline}
use Rattle.definition.specs.Text.{run_end, after}
use Rattle.definition.specs.Blob.{blob_stop}
use Rattle.read_blob.specs.declared.Move.{Move}
use Rattle.read_blob.specs.declared.Move.TheVariants.{Close, Open, Line, On}

-- ---- in a blob

unfoldable pub contents_move : Bytes → ℕ → Move
contents_move s i =
    let j = run_end blob_stop s i in
    On (if ltb i j then j else after s i)

unfoldable pub inside_move : Bytes → ℕ → Move
inside_move s i =
    elim (leb (length s) i) [
      | true ↦ Open
      | false ↦ elim (match_newline s i) [ Some nl ↦ Line nl | None ↦ contents_move s i ]
    ]

unfoldable pub blob_move : Bytes → ℕ → Move
blob_move s i = elim (match_lit s (cps "```") i) [ Some e ↦ Close e | None ↦ inside_move s i ]

-- ---- in another language's text

unfoldable pub lang_move : Bytes → ℕ → Move
lang_move s i =
    let j = run_end is_newline_char s i in
    elim (leb (length s) i) [
      | true ↦ Close i
      | false ↦ elim (ltb i j) [
        | true ↦ On j
        | false ↦ elim (match_newline s i) [ Some nl ↦ Line nl | None ↦ Open ]
      ]
    ]

-- in either, by whether it is another language's
abbrev pub move_at : Bytes → Bool → ℕ → Move
move_at s true i = lang_move s i
move_at s false i = blob_move s i
