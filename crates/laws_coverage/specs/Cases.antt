-- The table of K4: texts with what their reading takes, in order, and the limit up to which each byte is counted. proofs/Cases.antt
-- computes that the definition gives them, with the class file of no ranges.
use Rattle.std.specs.Prelude.{ℕ, List, [], ◌∷◌, ◌++◌, map}
use Prim.Native.String.{String}
use Rattle.definition.specs.Basics.{Bytes}
use Rattle.definition.specs.Utf8.{encode}
use Rattle.definition.specs.Kinds.{kind}
use Rattle.definition.specs.Tables.{cps}
use Rattle.definition.specs.State.{started, advance, ended, open_comment}
use Rattle.definition.specs.Cases.{no_ranges}
use Rattle.definition.specs.declared.State.{State}
use Rattle.laws_coverage.specs.Coverage.{Taking, skipped, gave, takings, limit}

-- ---- takings as they are written in the table

-- what is skipped: its place and its part; an item: its kind, where it was given, its span
pub data Row : Type 0 where
  skip : (place from to : ℕ) → Row
  item : (k at from to : ℕ) → Row

abbrev pub white : ℕ → ℕ → Row
white = skip 7

abbrev pub line_end : ℕ → ℕ → Row
line_end = skip 8

abbrev pub in_f_star : ℕ → ℕ → Row
in_f_star = skip 29

-- a token, and a comment, whose kind is 0: both begin where they are given
abbrev pub token : String → ℕ → ℕ → Row
token k from to = item (kind k) from from to

abbrev pub comment : ℕ → ℕ → Row
comment from to = item 0 from from to

-- EOF, and an ERROR, which is empty where its record says
abbrev pub eof : ℕ → Row
eof at = token "EOF" at at

abbrev pub error : ℕ → ℕ → Row
error at from = item (kind "ERROR") at from from

abbrev pub row : Taking → Row
row (skipped place from to) = skip place from to
row (gave at t) = item t.item.kind at t.item.from t.item.to

-- ---- the table

-- the state that the reading begins from, the text, its limit, and what is taken
abbrev pub Case : Type 0
Case = State × Bytes × ℕ × List Row

abbrev at_start : State
at_start = started 1 0

-- what the definition takes of a text from a state on
abbrev pub rows_from : State → Bytes → ℕ × List Row
rows_from st s = let ts = takings s (cps "stdin") no_ranges st in (limit st.offset ts, map row ts)

unfoldable pub cases : List Case
cases =
    -- the white between two items is in neither
    (at_start, cps "a b", 3, token "IDENT" 0 1 ∷ white 1 2 ∷ token "IDENT" 2 3 ∷ eof 3 ∷ [])
    ∷ (at_start, [], 0, eof 0 ∷ [])
    -- an ERROR of number 1, 2 or 7 sits past its choice, and the limit is where that was made; of any other number it sits there
    ∷ (at_start, cps "\"ab", 0, error 0 3 ∷ [])
    ∷ (at_start, cps "a ```f\nx", 2, token "IDENT" 0 1 ∷ white 1 2 ∷ error 2 8 ∷ [])
    ∷ (at_start, cps "\"\\uD800\"", 0, error 0 1 ∷ [])
    ∷ (at_start, cps " uu___a", 1, white 0 1 ∷ error 1 1 ∷ [])
    ∷ (at_start, cps "\n256uy", 1, line_end 0 1 ∷ error 1 1 ∷ [])
    ∷ (at_start, cps "-1.5", 1, token "MINUS" 0 1 ∷ error 1 1 ∷ [])
    ∷ (at_start, cps "a \\", 2, token "IDENT" 0 1 ∷ white 1 2 ∷ error 2 2 ∷ [])
    -- `// IN F*:` is skipped, and what follows is code
    ∷ (at_start, cps "x // IN F*: y", 13, token "IDENT" 0 1 ∷ white 1 2 ∷ in_f_star 2 11 ∷ white 11 12 ∷ token "IDENT" 12 13 ∷ eof 13 ∷ [])
    -- unclosed pieces: the first has the bytes, the others and EOF are empty at the text's end
    ∷ (at_start, cps "(* a (* b", 9, comment 0 9 ∷ comment 9 9 ∷ eof 9 ∷ [])
    -- a later piece begins where the last ended, and no choice is made in it: white space and `//` are its bytes
    ∷ (at_start, cps "(*(**) // *) c", 14, comment 0 6 ∷ comment 6 12 ∷ white 12 13 ∷ token "IDENT" 13 14 ∷ eof 14 ∷ [])
    -- an operator that is cut at `//`, and the comment behind the cut
    ∷ (at_start, cps "-//c", 4, token "OPINFIX2" 0 1 ∷ comment 1 4 ∷ eof 4 ∷ [])
    -- line ends: CRLF is one; in a string they are the item's
    ∷ (at_start, cps "a\r\n\n\rb", 6, token "IDENT" 0 1 ∷ line_end 1 3 ∷ line_end 3 4 ∷ line_end 4 5 ∷ token "IDENT" 5 6 ∷ eof 6 ∷ [])
    ∷ (at_start, cps "\"a\n \" ", 6, token "STRING" 0 5 ∷ white 5 6 ∷ eof 6 ∷ [])
    -- a BOM is white space, U+2028 a line end
    ∷ (at_start, encode 0xFEFF ++ cps "a", 4, white 0 3 ∷ token "IDENT" 3 4 ∷ eof 4 ∷ [])
    ∷ (at_start, cps "a" ++ (encode 0x2028 ++ cps "b"), 5, token "IDENT" 0 1 ∷ line_end 1 4 ∷ token "IDENT" 4 5 ∷ eof 5 ∷ [])
    -- from other states: between two items, in a comment, and where the reading has ended
    ∷ (advance at_start 1, cps "a b", 3, white 1 2 ∷ token "IDENT" 2 3 ∷ eof 3 ∷ [])
    ∷ (open_comment (advance at_start 6) (record { line = 1; col = 0 }), cps "(*(**) // *) c", 14, comment 6 12 ∷ white 12 13 ∷ token "IDENT" 13 14 ∷ eof 14 ∷ [])
    ∷ (ended (advance at_start 1), cps "a b", 1, [])
    ∷ []
