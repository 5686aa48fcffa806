-- The lexing state: what it is after some reading, when a saved one is sound, and `start`.
use Rattle.std.specs.Prelude.{ℕ, ◌+◌, ◌-◌, Bool, true, false, not, ◌&&◌, List, [], ◌∷◌, ltb, leb, eqb, length, get_or, if◌then◌else◌}
use Rattle.definition.specs.Basics.{Bytes}
use Rattle.definition.specs.Position.{is_continuation}
use Rattle.definition.specs.Answers.{StartAnswer}
use Rattle.definition.specs.declared.Pos.{Pos}
use Rattle.definition.specs.declared.State.{State}

abbrev pub no_pos : Pos
no_pos = record { line = 0; col = 0 }

-- the nine numbers, in document 01's order
abbrev pub state_words : State → List ℕ
state_words st =
    st.offset
    ∷ st.line
    ∷ st.bol
    ∷ st.column
    ∷ st.comments
    ∷ st.mode
    ∷ st.depth
    ∷ st.comment.line
    ∷ st.comment.col
    ∷ []

-- ---- reading on

-- `st.cur := i`
abbrev pub advance : State → ℕ → State
advance st i = record {
  offset = i;
  line = st.line;
  bol = st.bol;
  column = st.column;
  comments = st.comments;
  mode = st.mode;
  depth = st.depth;
  comment = st.comment;
}

-- `new_line`
abbrev pub new_line : State → State
new_line st = record {
  offset = st.offset;
  line = st.line + 1;
  bol = st.offset;
  column = 0;
  comments = st.comments;
  mode = st.mode;
  depth = st.depth;
  comment = st.comment;
}

-- `add_comment`, as far as it counts
abbrev pub one_more_comment : State → State
one_more_comment st = record {
  offset = st.offset;
  line = st.line;
  bol = st.bol;
  column = st.column;
  comments = st.comments + 1;
  mode = st.mode;
  depth = st.depth;
  comment = st.comment;
}

-- another mode, depth and comment start
abbrev pub with_mode : State → ℕ → ℕ → Pos → State
with_mode st mode depth comment = record {
  offset = st.offset;
  line = st.line;
  bol = st.bol;
  column = st.column;
  comments = st.comments;
  mode = mode;
  depth = depth;
  comment = comment;
}

-- the reading has ended, with EOF or ERROR
abbrev pub ended : State → State
ended st = with_mode st 2 st.depth st.comment

-- a call of `comment` from outside: one level is open, and its start is p
abbrev pub open_comment : State → Pos → State
open_comment st p = with_mode st 1 1 p

-- a call of `comment` from inside: one level more
abbrev pub deeper : State → State
deeper st = with_mode st st.mode (st.depth + 1) st.comment

-- a return from `comment` to `comment`: one comment more, one level less
abbrev pub close_level : State → State
close_level st = with_mode (one_more_comment st) 1 (st.depth - 1) st.comment

-- a return from the outermost `comment`: one comment more, and no level is open
abbrev pub close_last : State → State
close_last st = with_mode (one_more_comment st) 0 0 no_pos

-- a return from `comment`, by the levels that are open
unfoldable pub close_comment : State → State
close_comment st = elim (ltb 1 st.depth) [ true ↦ close_level st | false ↦ close_last st ]

-- ---- document 01, "Items and saved state": a sound state

-- i stands on a character's first byte or on the text's end
unfoldable pub at_character : Bytes → ℕ → Bool
at_character s i = if ltb i (length s) then not (is_continuation (get_or s i 0)) else eqb i (length s)

-- "both offsets stand on a character's first byte or the text's end; the line start isn't past the offset"
unfoldable pub offsets_sound : Bytes → State → Bool
offsets_sound s st = at_character s st.offset && (at_character s st.bol && leb st.bol st.offset)

-- "the line is at most 1,000,000 plus the offset; the line-start column is at most 1,000,000; comments and depth together are at
-- most the offset; the mode is 0, 1 or 2"
unfoldable pub counts_sound : State → Bool
counts_sound st =
    leb st.line (1000000 + st.offset)
    && (leb st.column 1000000 && (leb (st.comments + st.depth) st.offset && leb st.mode 2))

-- "depth is at least 1 in mode 1; depth and comment start are 0 otherwise"
unfoldable pub depth_sound : State → Bool
depth_sound st =
    if eqb st.mode 1
    then leb 1 st.depth
    else (eqb st.depth 0 && (eqb st.comment.line 0 && eqb st.comment.col 0))

-- "the comment start's line is at most the line, its column at most 2,048,576"
unfoldable pub comment_sound : State → Bool
comment_sound st = leb st.comment.line st.line && leb st.comment.col 2048576

unfoldable pub sound : Bytes → State → Bool
sound s st = offsets_sound s st && (counts_sound st && (depth_sound st && comment_sound st))

-- ---- document 01, "Start"

abbrev pub started : ℕ → ℕ → State
started line column = record {
  offset = 0;
  line = line;
  bol = 0;
  column = column;
  comments = 0;
  mode = 0;
  depth = 0;
  comment = no_pos;
}

-- a refused start gives nine zeros
abbrev pub nine_zeros : State
nine_zeros = started 0 0

unfoldable pub start : ℕ → ℕ → StartAnswer State
start line column =
    if ltb 1000000 line then record { refusal = 1; state = nine_zeros } else
    if ltb 1000000 column then record { refusal = 2; state = nine_zeros } else
    record { refusal = 0; state = started line column }
