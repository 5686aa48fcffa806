-- The tables of document 02, K2: each text with the positions of its items in the second run, and rows of its saved state, its refusals and
-- its stops. proofs/Utf16Cases.antt computes that the definition gives them. Texts start at 1:0, with the class file of no ranges.
use Rattle.std.specs.Prelude.{ℕ, ◌+◌, ◌*◌, true, List, [], ◌∷◌, ◌++◌, map, ltb, length, take, drop, get_or, replicate, if◌then◌else◌}
use Prim.Native.String.{String}
use Rattle.definition.specs.Basics.{Bytes}
use Rattle.definition.specs.Tables.{cps}
use Rattle.definition.specs.State.{started}
use Rattle.definition.specs.Item.{record_size}
use Rattle.definition.specs.Items.{records_of}
use Rattle.definition.specs.Utf16.{
  utf16,
  utf16_state_words,
  skip_chars,
  chosen_at,
  given_at,
  second,
  second_start,
  second_step,
  second_next,
  second_steps,
  second_after,
  utf16_start,
  line_zero,
  utf16_refusal,
  Utf16Outcome,
  utf16_run,
}
use Rattle.definition.specs.Listed.{read_back, listed}
use Rattle.definition.specs.Cases.{ListedItem, no_ranges, token, eof, a_comment}
use Rattle.definition.specs.Limits.{Row, between_items, in_comment, in_mode, two_letters, flattened}
use Rattle.definition.specs.declared.State.{State}
use Rattle.definition.specs.declared.Utf16State.{Utf16State}

-- ---- positions: words 2 to 5 of an item, and of a blob or an error words 11 to 14 too

abbrev pub positions_of : ListedItem → List ℕ
positions_of l = take 4 (drop 2 l) ++ (if ltb 1 (get_or l 9 0) then take 4 (drop 11 l) else [])

unfoldable pub position_cases : List (String × List (List ℕ))
position_cases =
    -- "A character above U+FFFF counts two units, any other counts one", and lines count from 0
    ("\"α\" x", (0 ∷ 0 ∷ 0 ∷ 3 ∷ []) ∷ (0 ∷ 4 ∷ 0 ∷ 5 ∷ []) ∷ (0 ∷ 5 ∷ 0 ∷ 5 ∷ []) ∷ [])
    ∷ ("\"😀\" x", (0 ∷ 0 ∷ 0 ∷ 4 ∷ []) ∷ (0 ∷ 5 ∷ 0 ∷ 6 ∷ []) ∷ (0 ∷ 6 ∷ 0 ∷ 6 ∷ []) ∷ [])
    -- columns count from the lexer's line starts: after a line end between items, in a string, after a backslash and the blanks that follow,
    -- and in a comment
    ∷ ("\"😀\"\n😀", (0 ∷ 0 ∷ 0 ∷ 4 ∷ []) ∷ (1 ∷ 0 ∷ 1 ∷ 0 ∷ 1 ∷ 0 ∷ 1 ∷ 0 ∷ []) ∷ [])
    ∷ ("\"😀\n😀\" x", (0 ∷ 0 ∷ 1 ∷ 3 ∷ []) ∷ (1 ∷ 4 ∷ 1 ∷ 5 ∷ []) ∷ (1 ∷ 5 ∷ 1 ∷ 5 ∷ []) ∷ [])
    ∷ ("\"😀\\\n  😀\" x", (0 ∷ 0 ∷ 1 ∷ 3 ∷ []) ∷ (1 ∷ 4 ∷ 1 ∷ 5 ∷ []) ∷ (1 ∷ 5 ∷ 1 ∷ 5 ∷ []) ∷ [])
    ∷ ("(*😀\n😀*) x", (0 ∷ 0 ∷ 1 ∷ 4 ∷ []) ∷ (1 ∷ 5 ∷ 1 ∷ 6 ∷ []) ∷ (1 ∷ 6 ∷ 1 ∷ 6 ∷ []) ∷ [])
    -- a token on a later line than the state before it that ends on a line later still
    ∷ ("\n\"😀\n😀\" x", (1 ∷ 0 ∷ 2 ∷ 3 ∷ []) ∷ (2 ∷ 4 ∷ 2 ∷ 5 ∷ []) ∷ (2 ∷ 5 ∷ 2 ∷ 5 ∷ []) ∷ [])
    -- positions that are not those of the item's first byte: of a `>`, of a line comment, of later pieces of a comment, of blobs
    ∷ ("\"😀\">=", (0 ∷ 0 ∷ 0 ∷ 4 ∷ []) ∷ (0 ∷ 5 ∷ 0 ∷ 6 ∷ []) ∷ (0 ∷ 6 ∷ 0 ∷ 6 ∷ []) ∷ [])
    ∷ ("\"😀\"//😀\nx", (0 ∷ 0 ∷ 0 ∷ 4 ∷ []) ∷ (0 ∷ 6 ∷ 0 ∷ 8 ∷ []) ∷ (1 ∷ 0 ∷ 1 ∷ 1 ∷ []) ∷ (1 ∷ 1 ∷ 1 ∷ 1 ∷ []) ∷ [])
    ∷ (
      "\"😀\"(* a (* b *)    c *)",
      (0 ∷ 0 ∷ 0 ∷ 4 ∷ []) ∷ (0 ∷ 4 ∷ 0 ∷ 16 ∷ []) ∷ (0 ∷ 4 ∷ 0 ∷ 24 ∷ []) ∷ (0 ∷ 24 ∷ 0 ∷ 24 ∷ []) ∷ [],
    )
    ∷ (
      "\"😀\"(* (*\n*)😀*)",
      (0 ∷ 0 ∷ 0 ∷ 4 ∷ []) ∷ (0 ∷ 4 ∷ 1 ∷ 2 ∷ []) ∷ (0 ∷ 4 ∷ 1 ∷ 6 ∷ []) ∷ (1 ∷ 6 ∷ 1 ∷ 6 ∷ []) ∷ [],
    )
    ∷ (
      "\"😀\"```f\n😀``` x",
      (0 ∷ 0 ∷ 0 ∷ 4 ∷ [])
          ∷ (1 ∷ 2 ∷ 1 ∷ 5 ∷ 0 ∷ 8 ∷ 0 ∷ 4 ∷ [])
          ∷ (1 ∷ 6 ∷ 1 ∷ 7 ∷ [])
          ∷ (1 ∷ 7 ∷ 1 ∷ 7 ∷ [])
          ∷ [],
    )
    ∷ (
      "\"😀\"#lang-f\n😀",
      (0 ∷ 0 ∷ 0 ∷ 4 ∷ []) ∷ (1 ∷ 2 ∷ 1 ∷ 2 ∷ 0 ∷ 11 ∷ 0 ∷ 4 ∷ []) ∷ (1 ∷ 2 ∷ 1 ∷ 2 ∷ []) ∷ [],
    )
    -- errors, with both ends of their ranges: a range that has bytes, and where reading stopped
    ∷ ("\"😀\"1.5", (0 ∷ 0 ∷ 0 ∷ 4 ∷ []) ∷ (0 ∷ 4 ∷ 0 ∷ 4 ∷ 0 ∷ 4 ∷ 0 ∷ 7 ∷ []) ∷ [])
    ∷ ("\"😀", (0 ∷ 3 ∷ 0 ∷ 3 ∷ 0 ∷ 3 ∷ 0 ∷ 3 ∷ []) ∷ [])
    ∷ ("\"😀\\uD800\"", (0 ∷ 3 ∷ 0 ∷ 3 ∷ 0 ∷ 3 ∷ 0 ∷ 3 ∷ []) ∷ [])
    ∷ []

-- ---- what is shown of the second run

-- the answer: refusal, offset, stop, count, and the eleven numbers of the state; and then both buffers
abbrev pub utf16_shown : Utf16Outcome → List ℕ
utf16_shown o = o.0.refusal ∷ o.0.offset ∷ o.0.stop ∷ o.0.count ∷ (utf16_state_words o.0.state ++ (o.1 ++ o.2))

unfoldable pub utf16_started : ℕ → ℕ → List ℕ
utf16_started line column = let a = utf16_start line column in a.refusal ∷ utf16_state_words a.state

abbrev pub with_seconds : State → ℕ → ℕ → Utf16State
with_seconds st column comment = record { first = st; column = column; comment = comment }

-- the refusal of a state in the text `aé`
abbrev pub refused_with : State → ℕ → ℕ → List ℕ
refused_with st column comment = (utf16_refusal two_letters [] no_ranges (with_seconds st column comment)).0 ∷ []

-- a run with buffers of sevens of the lengths given, and the items that it writes
abbrev pub utf16_run_on : Bytes → Utf16State → ℕ → ℕ → Utf16Outcome
utf16_run_on s g n m = utf16_run s [] no_ranges g (replicate n 7) (replicate m 7)

abbrev pub utf16_said : Utf16Outcome → List (List ℕ)
utf16_said o = read_back o.0.count o.1 o.2

-- a whole text from 1:0, with room for all of it. The line below names all that it rests on besides `listed`, so that a claim about it
-- computes
unfoldable pub utf16_listed : Bytes → List (List ℕ)
unfolding
    listed records_of utf16 skip_chars chosen_at given_at second second_start second_step second_next second_steps second_after utf16_start
    line_zero utf16_refusal utf16_run
utf16_listed s = utf16_said (utf16_run_on s (with_seconds (started 1 0) 0 0) (record_size * (length s + 1)) (4 * length s))

-- ---- rows

-- the comment of the issue: its second piece is trimmed by 3 characters, and its column is 4 units
abbrev pub trimmed_text : Bytes
trimmed_text = cps "\"😀\"(* a (* b *)    c *)"

abbrev pub after_first_piece : List ℕ
after_first_piece = 18 ∷ 1 ∷ 0 ∷ 0 ∷ 1 ∷ 1 ∷ 1 ∷ 1 ∷ 3 ∷ 0 ∷ 4 ∷ []

abbrev pub inside_it : Utf16State
inside_it = record {
  first = record {
    offset = 18;
    line = 1;
    bol = 0;
    column = 0;
    comments = 1;
    mode = 1;
    depth = 1;
    comment = record { line = 1; col = 3 };
  };
  column = 0;
  comment = 4;
}

abbrev pub eleven_zeros : List ℕ
eleven_zeros = replicate 11 0

unfoldable pub utf16_rows : List Row
unfolding listed utf16_listed utf16_started
utf16_rows =
    ("the weights", utf16 0x41 ∷ utf16 0xFFFF ∷ utf16 0x10000 ∷ utf16 0x10FFFF ∷ [], 1 ∷ 1 ∷ 2 ∷ 2 ∷ [])
    ∷ ("start puts the column in both", utf16_started 3 7, 0 ∷ 0 ∷ 3 ∷ 0 ∷ 7 ∷ 0 ∷ 0 ∷ 0 ∷ 0 ∷ 0 ∷ 7 ∷ 0 ∷ [])
    ∷ ("start takes line 0", utf16_started 0 0, 0 ∷ eleven_zeros)
    ∷ ("a refused start", utf16_started 1000001 7 ++ utf16_started 1 1000001, 1 ∷ (eleven_zeros ++ (2 ∷ eleven_zeros)))
    ∷ ("payloads are unchanged: `__LINE__` is the lexer's own line", flattened (utf16_listed (cps "__LINE__")), flattened (token "INT" 0 0 0 8 0 0 8 "1" ∷ eof 0 8 0 8 ∷ []))
    ∷ (
      "U+2028 begins a line, as the lexer has it",
      flattened (map positions_of (utf16_listed (cps "a" ++ (0xE2 ∷ 0x80 ∷ 0xA8 ∷ cps "b")))),
      0 ∷ 0 ∷ 0 ∷ 1 ∷ 1 ∷ 0 ∷ 1 ∷ 1 ∷ 1 ∷ 1 ∷ 1 ∷ 1 ∷ [],
    )
    -- a comment in two runs
    ∷ (
      "the state inside a comment has both columns of its start",
      take 15 (utf16_shown (utf16_run_on trimmed_text (with_seconds (started 1 0) 0 0) 36 99)),
      0 ∷ 0 ∷ 1 ∷ 2 ∷ after_first_piece,
    )
    ∷ (
      "the next piece is trimmed by the first and stands at the second",
      flattened (utf16_said (utf16_run_on trimmed_text inside_it 99 99)),
      flattened (a_comment 0 4 0 24 2 true 18 26 " c *)" ∷ eof 0 24 2 26 ∷ []),
    )
    -- both columns of the line start, of which the second may be the smaller
    ∷ (
      "columns go on from the line start's own",
      flattened (map positions_of (utf16_said (utf16_run_on (cps "a\nb") (with_seconds (started 5 9) 2 0) 99 99))),
      4 ∷ 2 ∷ 4 ∷ 3 ∷ 5 ∷ 0 ∷ 5 ∷ 1 ∷ 5 ∷ 1 ∷ 5 ∷ 1 ∷ [],
    )
    ∷ (
      "a line's end sets both to 0",
      take 15 (utf16_shown (utf16_run_on (cps "\"\n\"") (with_seconds (started 5 9) 2 0) 18 9)),
      0 ∷ 0 ∷ 1 ∷ 1 ∷ 3 ∷ 6 ∷ 2 ∷ 0 ∷ 0 ∷ 0 ∷ 0 ∷ 0 ∷ 0 ∷ 0 ∷ 0 ∷ [],
    )
    -- refusals
    ∷ ("a second column of 1,000,000", refused_with (between_items 3 1 0 0 0) 1000000 0, 0 ∷ [])
    ∷ ("a second column of 1,000,001", refused_with (between_items 3 1 0 0 0) 1000001 0, 9 ∷ [])
    ∷ ("a comment start's second column of 2,048,576", refused_with (in_comment 3 1 1 1 0) 0 2048576, 0 ∷ [])
    ∷ ("a comment start's second column of 2,048,577", refused_with (in_comment 3 1 1 1 0) 0 2048577, 9 ∷ [])
    ∷ ("a comment start's second column in mode 0", refused_with (between_items 3 1 0 0 0) 0 1, 9 ∷ [])
    ∷ ("a first column of 1,000,001", refused_with (between_items 3 1 0 1000001 0) 0 0, 9 ∷ [])
    ∷ ("eleven zeros", (utf16_refusal [] [] no_ranges (with_seconds (started 0 0) 0 0)).0 ∷ [], 10 ∷ [])
    ∷ ("line 0 in mode 2", refused_with (record { offset = 3; line = 0; bol = 0; column = 0; comments = 0; mode = 2; depth = 0; comment = record { line = 0; col = 0 } }) 0 0, 10 ∷ [])
    ∷ ("a comment start's line 0 in mode 1", refused_with (in_comment 3 1 1 0 0) 0 0, 10 ∷ [])
    ∷ ("a comment start's line 0 in mode 2", refused_with (in_mode 2 0 0) 0 0, 0 ∷ [])
    ∷ ("9 goes before 10", refused_with (between_items 3 0 0 0 0) 1000001 0, 9 ∷ [])
    ∷ ("8 goes before 10", (utf16_refusal (255 ∷ []) [] no_ranges (with_seconds (started 0 0) 0 0)).0 ∷ [], 8 ∷ [])
    ∷ (
      "a refusal alters nothing",
      utf16_shown (utf16_run_on (cps "a") (with_seconds (started 0 5) 6 0) 1 2),
      10 ∷ 0 ∷ 0 ∷ 0 ∷ 0 ∷ 0 ∷ 0 ∷ 5 ∷ 0 ∷ 0 ∷ 0 ∷ 0 ∷ 0 ∷ 6 ∷ 0 ∷ 7 ∷ 7 ∷ 7 ∷ [],
    )
    ∷ []
