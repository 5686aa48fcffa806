-- The table of refusals and stops: each refusal at its boundary, the order between them, the stops, and runs taken up again.
-- proofs/Limits.antt computes it. A row is what is tried, what the definition gives, and what it should give.
use Rattle.std.specs.Prelude.{ℕ, ◌+◌, ◌*◌, ◌/◌, ◌%◌, Bool, true, false, List, [], ◌∷◌, ◌++◌, map, length, take, set, replicate}
use Prim.Native.String.{String}
use Rattle.definition.specs.Basics.{Bytes}
use Rattle.definition.specs.ClassFile.{Range, header_size, bad_class_length, class_check}
use Rattle.definition.specs.Lowercase.{flat}
use Rattle.definition.specs.Tables.{cps}
use Rattle.definition.specs.State.{state_words, no_pos, started, sound, start}
use Rattle.definition.specs.Item.{mark}
use Rattle.definition.specs.Run.{Outcome, text_too_long, name_too_long, refusal, run}
use Rattle.definition.specs.Cases.{no_ranges, eof, error_at, a_comment}
use Rattle.definition.specs.Listed.{said, listed}
use Rattle.definition.specs.declared.State.{State}

abbrev pub Row : Type 0
Row = String × List ℕ × List ℕ

-- ---- what is shown of an operation

abbrev pub yes_or_no : Bool → List ℕ
yes_or_no b = mark b ∷ []

unfoldable pub started_with : ℕ → ℕ → List ℕ
started_with line column = let a = start line column in a.refusal ∷ state_words a.state

abbrev pub checked : Bytes → List ℕ
checked f = class_check f ∷ []

-- a run's answer: refusal, offset, stop, count, and the nine numbers of the state
unfoldable pub answer : Outcome → List ℕ
answer o = o.0.refusal ∷ o.0.offset ∷ o.0.stop ∷ o.0.count ∷ state_words o.0.state

-- the answer, and then both buffers
unfoldable pub all_of : Outcome → List ℕ
all_of o = answer o ++ (o.1 ++ o.2)

-- the refusal of a text, and its offset
unfoldable pub bad_at : Bytes → List ℕ
bad_at s = let r = refusal s [] no_ranges (started 1 0) in r.0 ∷ r.1 ∷ []

-- ---- class files, made from their ranges

abbrev pub four_bytes_of : ℕ → Bytes
four_bytes_of n = n % 256 ∷ n / 256 % 256 ∷ n / 65536 % 256 ∷ n / 16777216 ∷ []

abbrev pub all_bytes : List ℕ → Bytes
all_bytes [] = []
all_bytes (n ∷ ns) = four_bytes_of n ++ all_bytes ns

-- the pairs of some classes, the first of which has its ranges at `at`
unfoldable pub pairs : ℕ → List (List Range) → Bytes
pairs at [] = []
pairs at (rs ∷ cs) = all_bytes (length rs ∷ at ∷ []) ++ pairs (at + 8 * length rs) cs

unfoldable pub bodies : List (List Range) → Bytes
bodies [] = []
bodies (rs ∷ cs) = all_bytes (flat rs) ++ bodies cs

-- a file of two classes with ranges, the last two
abbrev pub file : List Range → List Range → Bytes
file zs sm = let cs = [] ∷ [] ∷ [] ∷ [] ∷ zs ∷ sm ∷ [] in pairs header_size cs ++ bodies cs

-- ---- states

-- the text is `aé`, whose bytes are one of `a` and two of `é`, so that offset 2 is inside a character
abbrev pub two_letters : Bytes
two_letters = cps "aé"

-- a state in mode 0, and one in mode 1
abbrev pub between_items : ℕ → ℕ → ℕ → ℕ → ℕ → State
between_items offset line bol column comments = record {
  offset = offset;
  line = line;
  bol = bol;
  column = column;
  comments = comments;
  mode = 0;
  depth = 0;
  comment = no_pos;
}

abbrev pub in_comment : ℕ → ℕ → ℕ → ℕ → ℕ → State
in_comment offset line depth l c = record {
  offset = offset;
  line = line;
  bol = 0;
  column = 0;
  comments = 0;
  mode = 1;
  depth = depth;
  comment = record { line = l; col = c };
}

abbrev pub in_mode : ℕ → ℕ → ℕ → State
in_mode mode depth col = record {
  offset = 3;
  line = 1;
  bol = 0;
  column = 0;
  comments = 0;
  mode = mode;
  depth = depth;
  comment = record { line = 0; col = col };
}

-- in mode 1 with so many comments and levels, and in a mode with a comment start on line 1
abbrev pub commented : ℕ → ℕ → State
commented comments depth = record {
  offset = 3;
  line = 1;
  bol = 0;
  column = 0;
  comments = comments;
  mode = 1;
  depth = depth;
  comment = no_pos;
}

abbrev pub started_in_comment : ℕ → State
started_in_comment mode = record {
  offset = 3;
  line = 1;
  bol = 0;
  column = 0;
  comments = 0;
  mode = mode;
  depth = 0;
  comment = record { line = 1; col = 0 };
}

abbrev pub is_sound : State → List ℕ
is_sound st = yes_or_no (sound two_letters st)

-- ---- runs, with buffers of sevens of the lengths given

abbrev pub run_on : Bytes → State → ℕ → ℕ → Outcome
run_on s st n m = run s [] no_ranges st (replicate n 7) (replicate m 7)

-- some items as one list of numbers
abbrev pub flattened : List (List ℕ) → List ℕ
flattened [] = []
flattened (l ∷ ls) = l ++ flattened ls

abbrev pub zeros : List ℕ
zeros = replicate 9 0

-- ---- the table

unfoldable pub start_rows : List Row
start_rows =
    ("line and column 1,000,000", started_with 1000000 1000000, 0 ∷ 0 ∷ 1000000 ∷ 0 ∷ 1000000 ∷ 0 ∷ 0 ∷ 0 ∷ 0 ∷ 0 ∷ [])
    ∷ ("line 1,000,001 is refusal 1", started_with 1000001 0, 1 ∷ zeros)
    ∷ ("column 1,000,001 is refusal 2", started_with 1 1000001, 2 ∷ zeros)
    ∷ ("1 goes before 2", started_with 1000001 1000001, 1 ∷ zeros)
    ∷ []

unfoldable pub class_rows : List Row
class_rows =
    ("48 bytes", checked no_ranges, 0 ∷ [])
    ∷ ("47 bytes are refusal 3", checked (take 47 no_ranges), 3 ∷ [])
    ∷ ("a length of 65,536", yes_or_no (bad_class_length 65536), 0 ∷ [])
    ∷ ("a length of 65,537 is refusal 3", yes_or_no (bad_class_length 65537), 1 ∷ [])
    ∷ ("an offset of 49 for 48 is refusal 4", checked (set no_ranges 4 49), 4 ∷ [])
    ∷ ("the offset of the last class, which is empty", checked (set no_ranges 44 56), 4 ∷ [])
    ∷ ("a byte after the last range is refusal 4", checked (no_ranges ++ (0 ∷ [])), 4 ∷ [])
    ∷ ("a last range cut short", checked (take 55 (file [] ((200, 201) ∷ []))), 4 ∷ [])
    ∷ ("2^29 ranges, whose bytes 32 bits don't count", checked (set no_ranges 43 32), 4 ∷ [])
    ∷ ("3 goes before 4", checked (set (take 47 no_ranges) 4 49), 3 ∷ [])
    ∷ ("a range of one", checked (file ((200, 200) ∷ []) []), 0 ∷ [])
    ∷ ("first above last is refusal 5", checked (file ((201, 200) ∷ []) []), 5 ∷ [])
    ∷ ("last 1,114,111", checked (file [] ((200, 1114111) ∷ [])), 0 ∷ [])
    ∷ ("last 1,114,112 is refusal 5", checked (file [] ((200, 1114112) ∷ [])), 5 ∷ [])
    ∷ ("first just above the last before", checked (file [] ((200, 201) ∷ (202, 203) ∷ [])), 0 ∷ [])
    ∷ ("first at the last before is refusal 5", checked (file [] ((200, 201) ∷ (201, 203) ∷ [])), 5 ∷ [])
    ∷ ("the first range of a class has none before it", checked (file ((300, 301) ∷ []) ((200, 201) ∷ [])), 0 ∷ [])
    ∷ ("4 goes before 5", checked (file [] ((201, 200) ∷ []) ++ (0 ∷ [])), 4 ∷ [])
    ∷ []

unfoldable pub refusal_rows : List Row
refusal_rows =
    ("a text of 1,048,576 bytes", yes_or_no (text_too_long 1048576), 0 ∷ [])
    ∷ ("a text of 1,048,577 bytes is refusal 6", yes_or_no (text_too_long 1048577), 1 ∷ [])
    ∷ ("a name of 4,096 bytes", yes_or_no (name_too_long 4096), 0 ∷ [])
    ∷ ("a name of 4,097 bytes is refusal 7", yes_or_no (name_too_long 4097), 1 ∷ [])
    ∷ ("refusal 3 alters nothing", all_of (run [] [] [] (started 1 0) (7 ∷ []) (8 ∷ [])), 3 ∷ 0 ∷ 0 ∷ 0 ∷ (state_words (started 1 0) ++ (7 ∷ 8 ∷ [])))
    ∷ (
      "refusal 4 alters nothing",
      all_of (run [] [] (no_ranges ++ (0 ∷ [])) (started 1 0) (7 ∷ []) (8 ∷ [])),
      4 ∷ 0 ∷ 0 ∷ 0 ∷ (state_words (started 1 0) ++ (7 ∷ 8 ∷ [])),
    )
    ∷ (
      "refusal 5 alters nothing",
      all_of (run [] [] (file [] ((201, 200) ∷ [])) (started 1 0) (7 ∷ []) (8 ∷ [])),
      5 ∷ 0 ∷ 0 ∷ 0 ∷ (state_words (started 1 0) ++ (7 ∷ 8 ∷ [])),
    )
    ∷ ("3 goes before 8", answer (run (255 ∷ []) [] [] (started 1 0) [] []), 3 ∷ 0 ∷ 0 ∷ 0 ∷ state_words (started 1 0))
    ∷ (
      "refusal 8 has its offset and alters nothing",
      all_of (run (97 ∷ 255 ∷ []) [] no_ranges (started 1 0) (7 ∷ []) (8 ∷ [])),
      8 ∷ 1 ∷ 0 ∷ 0 ∷ (state_words (started 1 0) ++ (7 ∷ 8 ∷ [])),
    )
    ∷ (
      "8 at the first byte of what is cut short",
      answer (run (97 ∷ 0xE2 ∷ 0x88 ∷ []) [] no_ranges (started 1 0) [] []),
      8 ∷ 1 ∷ 0 ∷ 0 ∷ state_words (started 1 0),
    )
    ∷ ("the least of two bytes", bad_at (0xC2 ∷ 0x80 ∷ []), 0 ∷ 0 ∷ [])
    ∷ ("below the least of two bytes", bad_at (0xC1 ∷ 0xBF ∷ []), 8 ∷ 0 ∷ [])
    ∷ ("the least of three bytes", bad_at (0xE0 ∷ 0xA0 ∷ 0x80 ∷ []), 0 ∷ 0 ∷ [])
    ∷ ("below the least of three bytes", bad_at (0xE0 ∷ 0x9F ∷ 0xBF ∷ []), 8 ∷ 0 ∷ [])
    ∷ ("below the surrogates", bad_at (0xED ∷ 0x9F ∷ 0xBF ∷ []), 0 ∷ 0 ∷ [])
    ∷ ("the least surrogate", bad_at (0xED ∷ 0xA0 ∷ 0x80 ∷ []), 8 ∷ 0 ∷ [])
    ∷ ("the least of four bytes", bad_at (0xF0 ∷ 0x90 ∷ 0x80 ∷ 0x80 ∷ []), 0 ∷ 0 ∷ [])
    ∷ ("below the least of four bytes", bad_at (0xF0 ∷ 0x8F ∷ 0xBF ∷ 0xBF ∷ []), 8 ∷ 0 ∷ [])
    ∷ ("the greatest code point", bad_at (0xF4 ∷ 0x8F ∷ 0xBF ∷ 0xBF ∷ []), 0 ∷ 0 ∷ [])
    ∷ ("above the greatest code point", bad_at (0xF4 ∷ 0x90 ∷ 0x80 ∷ 0x80 ∷ []), 8 ∷ 0 ∷ [])
    ∷ ("a byte that continues nothing, after a character of two bytes", bad_at (0xC3 ∷ 0xA9 ∷ 0x80 ∷ []), 8 ∷ 2 ∷ [])
    ∷ ("8 goes before 9", answer (run (255 ∷ []) [] no_ranges (between_items 9 0 0 0 0) [] []), 8 ∷ 0 ∷ 0 ∷ 0 ∷ state_words (between_items 9 0 0 0 0))
    ∷ (
      "refusal 9 alters nothing",
      all_of (run [] [] no_ranges (between_items 1 0 0 0 0) (7 ∷ []) (8 ∷ [])),
      9 ∷ 0 ∷ 0 ∷ 0 ∷ (state_words (between_items 1 0 0 0 0) ++ (7 ∷ 8 ∷ [])),
    )
    ∷ []

unfoldable pub sound_rows : List Row
sound_rows =
    ("the text's end", is_sound (between_items 3 1 0 0 0), 1 ∷ [])
    ∷ ("past the text's end", is_sound (between_items 4 1 0 0 0), 0 ∷ [])
    ∷ ("a character's first byte", is_sound (between_items 1 1 1 0 0), 1 ∷ [])
    ∷ ("inside a character", is_sound (between_items 2 1 0 0 0), 0 ∷ [])
    ∷ ("a line start inside a character", is_sound (between_items 3 1 2 0 0), 0 ∷ [])
    ∷ ("a line start past the offset", is_sound (between_items 0 1 1 0 0), 0 ∷ [])
    ∷ ("line 1,000,003 at offset 3", is_sound (between_items 3 1000003 0 0 0), 1 ∷ [])
    ∷ ("line 1,000,004 at offset 3", is_sound (between_items 3 1000004 0 0 0), 0 ∷ [])
    ∷ ("line-start column 1,000,000", is_sound (between_items 3 1 0 1000000 0), 1 ∷ [])
    ∷ ("line-start column 1,000,001", is_sound (between_items 3 1 0 1000001 0), 0 ∷ [])
    ∷ ("3 comments at offset 3", is_sound (between_items 3 1 0 0 3), 1 ∷ [])
    ∷ ("4 comments at offset 3", is_sound (between_items 3 1 0 0 4), 0 ∷ [])
    ∷ ("2 comments and depth 1 at offset 3", is_sound (commented 2 1), 1 ∷ [])
    ∷ ("2 comments and depth 2 at offset 3", is_sound (commented 2 2), 0 ∷ [])
    ∷ ("depth 3 at offset 3", is_sound (in_comment 3 1 3 1 0), 1 ∷ [])
    ∷ ("depth 4 at offset 3", is_sound (in_comment 3 1 4 1 0), 0 ∷ [])
    ∷ ("depth 0 in mode 1", is_sound (in_comment 3 1 0 1 0), 0 ∷ [])
    ∷ ("depth 2^32-1, whose sum with a comment 32 bits don't count", is_sound (commented 1 4294967295), 0 ∷ [])
    ∷ ("mode 2", is_sound (in_mode 2 0 0), 1 ∷ [])
    ∷ ("mode 3", is_sound (in_mode 3 0 0), 0 ∷ [])
    ∷ ("depth 1 in mode 0", is_sound (in_mode 0 1 0), 0 ∷ [])
    ∷ ("a comment start's column in mode 2", is_sound (in_mode 2 0 1), 0 ∷ [])
    ∷ ("a comment start's line in mode 0", is_sound (started_in_comment 0), 0 ∷ [])
    ∷ ("a comment start's line in mode 2", is_sound (started_in_comment 2), 0 ∷ [])
    ∷ ("a comment start on the line", is_sound (in_comment 3 1 1 1 0), 1 ∷ [])
    ∷ ("a comment start on a later line", is_sound (in_comment 3 1 1 2 0), 0 ∷ [])
    ∷ ("a comment start at column 2,048,576", is_sound (in_comment 3 1 1 1 2048576), 1 ∷ [])
    ∷ ("a comment start at column 2,048,577", is_sound (in_comment 3 1 1 1 2048577), 0 ∷ [])
    ∷ []

-- the three items of `a b`: their numbers with word 6, and their payload bytes
abbrev pub ab : Bytes
ab = cps "a b"

abbrev pub first_ident : List ℕ
first_ident = 1 ∷ 65 ∷ 1 ∷ 0 ∷ 1 ∷ 1 ∷ 0 ∷ 1 ∷ 0 ∷ 0 ∷ 0 ∷ 0 ∷ 0 ∷ 0 ∷ 0 ∷ 0 ∷ 0 ∷ 1 ∷ []

abbrev pub second_ident : List ℕ
second_ident = 1 ∷ 65 ∷ 1 ∷ 2 ∷ 1 ∷ 3 ∷ 1 ∷ 1 ∷ 0 ∷ 0 ∷ 0 ∷ 0 ∷ 0 ∷ 0 ∷ 0 ∷ 0 ∷ 2 ∷ 3 ∷ []

abbrev pub the_end : List ℕ
the_end = 1 ∷ 165 ∷ 1 ∷ 3 ∷ 1 ∷ 3 ∷ 2 ∷ 0 ∷ 0 ∷ 0 ∷ 0 ∷ 0 ∷ 0 ∷ 0 ∷ 0 ∷ 0 ∷ 3 ∷ 3 ∷ []

abbrev pub at_line_1 : ℕ → ℕ → List ℕ
at_line_1 offset mode = offset ∷ 1 ∷ 0 ∷ 0 ∷ 0 ∷ mode ∷ 0 ∷ 0 ∷ 0 ∷ []

-- a blob named f, whose contents are a line end and an x
abbrev pub a_blob_text : Bytes
a_blob_text = cps "```f\nx```"

unfoldable pub stop_rows : List Row
stop_rows = (
  "the end in the last 18 numbers is stop 0",
  all_of (run_on ab (started 1 0) 54 2),
  0 ∷ 0 ∷ 0 ∷ 3 ∷ (at_line_1 3 2 ++ (first_ident ++ (second_ident ++ (the_end ++ cps "ab")))),
)
    ∷ (
      "17 numbers left are stop 1, and keep what they held",
      all_of (run_on ab (started 1 0) 53 3),
      0 ∷ 0 ∷ 1 ∷ 2 ∷ (at_line_1 3 0 ++ (first_ident ++ (second_ident ++ (replicate 17 7 ++ (cps "ab" ++ (7 ∷ [])))))),
    )
    ∷ ("17 numbers lent take no item", all_of (run_on ab (started 1 0) 17 1), 0 ∷ 0 ∷ 1 ∷ 0 ∷ (at_line_1 0 0 ++ (replicate 17 7 ++ (7 ∷ []))))
    ∷ ("18 numbers lent take one", all_of (run_on ab (started 1 0) 18 1), 0 ∷ 0 ∷ 1 ∷ 1 ∷ (at_line_1 1 0 ++ (first_ident ++ cps "a")))
    ∷ (
      "a payload too long is stop 2",
      all_of (run_on ab (started 1 0) 54 1),
      0 ∷ 0 ∷ 2 ∷ 1 ∷ (at_line_1 1 0 ++ (first_ident ++ (replicate 36 7 ++ cps "a"))),
    )
    ∷ ("a blob's name and contents are one payload", answer (run_on a_blob_text (started 1 0) 36 2), 0 ∷ 0 ∷ 2 ∷ 0 ∷ at_line_1 0 0)
    ∷ ("with room for both it is written", answer (run_on a_blob_text (started 1 0) 36 3), 0 ∷ 0 ∷ 0 ∷ 2 ∷ 9 ∷ 2 ∷ 5 ∷ 0 ∷ 0 ∷ 2 ∷ 0 ∷ 0 ∷ 0 ∷ [])
    ∷ ("1 goes before 2", all_of (run_on ab (started 1 0) 35 1), 0 ∷ 0 ∷ 1 ∷ 1 ∷ (at_line_1 1 0 ++ (first_ident ++ (replicate 17 7 ++ cps "a"))))
    ∷ ("no room at all: the state given", answer (run_on ab (started 1 0) 0 0), 0 ∷ 0 ∷ 1 ∷ 0 ∷ at_line_1 0 0)
    ∷ ("white before an unwritten item is not in the state", answer (run_on (cps ";     a") (started 1 0) 18 9), 0 ∷ 0 ∷ 1 ∷ 1 ∷ at_line_1 1 0)
    ∷ ("at the text's end in mode 0 the end is still to be written", answer (run_on [] (started 1 0) 17 0), 0 ∷ 0 ∷ 1 ∷ 0 ∷ at_line_1 0 0)
    ∷ (
      "error 7 ends at its own backslash, and nothing of its string is written",
      all_of (run_on (cps "\"a\\uD83D\\uDE00\\uDE00\"") (started 1 0) 18 5),
      0 ∷ 0 ∷ 0 ∷ 1 ∷ (at_line_1 14 2 ++ (error_at 7 14 ++ replicate 5 7)),
    )
    ∷ ("mode 2 gives no items, with room", answer (run_on ab (in_mode 2 0 0) 54 9), 0 ∷ 0 ∷ 0 ∷ 0 ∷ 3 ∷ 1 ∷ 0 ∷ 0 ∷ 0 ∷ 2 ∷ 0 ∷ 0 ∷ 0 ∷ [])
    ∷ ("mode 2 gives no items, without room", answer (run_on ab (in_mode 2 0 0) 0 0), 0 ∷ 0 ∷ 0 ∷ 0 ∷ 3 ∷ 1 ∷ 0 ∷ 0 ∷ 0 ∷ 2 ∷ 0 ∷ 0 ∷ 0 ∷ [])
    ∷ []

-- a comment of two pieces, read in two runs
abbrev pub nested : Bytes
nested = cps "(* a (* b *) c *)"

abbrev pub after_first : State
after_first = record {
  offset = 12;
  line = 1;
  bol = 0;
  column = 0;
  comments = 1;
  mode = 1;
  depth = 1;
  comment = record { line = 1; col = 0 };
}

unfoldable pub carried_rows : List Row
carried_rows =
    ("after a piece the comment is open", answer (run_on nested (started 1 0) 18 99), 0 ∷ 0 ∷ 1 ∷ 1 ∷ state_words after_first)
    ∷ (
      "mode 1 goes on after it",
      flattened (said (run_on nested after_first 99 99)),
      flattened (a_comment 1 0 1 17 2 true 12 17 " c *)" ∷ eof 1 17 2 17 ∷ []),
    )
    ∷ (
      "at the text's end each level gives a piece",
      flattened (said (run_on (cps "abc") (in_comment 3 1 2 1 0) 99 99)),
      flattened (a_comment 1 0 1 3 1 false 3 3 "*)" ∷ a_comment 1 0 1 3 2 false 3 3 "*)" ∷ eof 1 3 2 3 ∷ []),
    )
    ∷ []

unfoldable pub limit_rows : List Row
unfolding
    started_with answer all_of bad_at start_rows class_rows refusal_rows sound_rows stop_rows carried_rows pairs bodies flat bad_class_length
    text_too_long name_too_long sound start listed
limit_rows = start_rows ++ (class_rows ++ (refusal_rows ++ (sound_rows ++ (stop_rows ++ carried_rows))))

abbrev pub given : List (List ℕ)
given = map (λ r. r.1) limit_rows

abbrev pub due : List (List ℕ)
due = map (λ r. r.2) limit_rows
