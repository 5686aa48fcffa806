-- The tables of the definition, each shown by one computed test: the lowercase ranges are what the source's string spells and
-- ascend, the kinds are numbered 1 to 173, every kind that a table or a rule names is one of them, and a table is searched to its
-- longest word. Rests on nothing but the definition.
use Rattle.std.specs.Prelude.{if◌then◌else◌}
use Prim.Native.Nat.{ℕ, ◌+◌}
use Prim.Native.String.{String}
use mathlib.Core.Path.{◌≡◌, refl}
use mathlib.Core.Bool.{Bool, true, ◌&&◌, not}
use mathlib.Core.List.{List, [], ◌∷◌, ◌++◌, map}
use lib.Dec.{eqb}
use Rattle.definition.specs.Basics.{Bytes, again, done, loop, mem_cp}
use Rattle.definition.specs.Utf8.{encode, encode_all, sequence_at, sequence}
use Rattle.definition.specs.Text.{char_has, byte_has, star}
use Rattle.definition.specs.ClassFile.{ascending}
use Rattle.definition.specs.Lowercase.{ll_ranges, decode, decode_from, hex_digit, ll_tbl, flat}
use Rattle.definition.specs.Chars.{is_digit, is_op_char, is_symbolchar, in_table, ascii_table, count_up, is_lower, is_ident_start, is_constructor_start}
use Rattle.definition.specs.Kinds.{kind_names, number_from, kind}
use Rattle.definition.specs.Tables.{cps, keywords, constructors, op_tokens, uoperators, early_literals, kw_op_rules, mixfix_rules}
use Rattle.definition.specs.Matchers.{one, match_lit, plus, match_ident, match_constructor}
use Rattle.definition.specs.Select.{keep, try_words, try_all, one_of_then_symbols, lit_then_symbols, places, select}
use Rattle.definition.specs.State.{started}
use Rattle.definition.specs.Rules.{place_rules}
use Rattle.definition.specs.Token.{TokenTurn, by_rule}
use Rattle.definition.specs.Listed.{listed}

-- ---- the lowercase letters

-- the table is what `decode` makes of the source's string
pub ll_decoded : decode ll_ranges ≡ flat ll_tbl
unfolding ll_ranges decode decode_from hex_digit ll_tbl flat
ll_decoded = refl

-- "One test over the whole table shows that it ascends and never overlaps"
pub ll_ascending : ascending 0 ll_tbl ≡ true
unfolding ascending ll_tbl
ll_ascending = refl

-- ---- the kinds

-- there are 173 names, each numbered by its place: so no name stands twice
pub kinds_numbered : map kind kind_names ≡ count_up 1 173
unfolding kind kind_names number_from count_up
kinds_numbered = refl

abbrev known : ℕ → Bool
known k = not (eqb k 0)

abbrev all_known : List ℕ → Bool
all_known [] = true
all_known (k ∷ ks) = known k && all_known ks

-- some of the numbers as records have them: the first and the last, those around 50, 100 and 150, and some that users meet most
abbrev raw_numbers : List (ℕ × String)
raw_numbers =
    (1, "NOEQUALITY") ∷ (31, "LET") ∷ (50, "REQUIRES") ∷ (51, "SET_RANGE_OF") ∷ (61, "VAL") ∷ (65, "IDENT") ∷ (100, "COLON_EQUALS") ∷
    (101, "SEMICOLON") ∷ (119, "NAME") ∷ (148, "STRING") ∷ (150, "USE_LANG_BLOB") ∷ (151, "INT8") ∷ (165, "EOF") ∷ (166, "INT") ∷
    (167, "CHAR") ∷ (173, "ERROR") ∷ []

pub kinds_raw : map (λ x. kind x.1) raw_numbers ≡ map (λ x. x.0) raw_numbers
unfolding kind kind_names number_from
kinds_raw = refl

-- every kind that a table names is one of them
pub tables_known : all_known
    (map (λ e. kind e.kind) (keywords ++ (constructors ++ (op_tokens ++ (uoperators ++ (early_literals ++ mixfix_rules)))))
    ++ (map (λ x. kind x.kind) kw_op_rules ++ map (λ x. kind x.op_kind) kw_op_rules))
    ≡ true
unfolding kind kind_names number_from keywords constructors op_tokens uoperators early_literals kw_op_rules mixfix_rules
tables_known = refl

-- ---- the rules

-- the kind of what a rule gives; 0 for one that skips, as for a comment
abbrev gives : TokenTurn → ℕ
gives (again st) = 0
gives (done t) = t.item.kind

-- what each place gives, tried on a text of one character and on the first word of its table: places 7, 8 and 29 skip, 28 and 30
-- give comments, and a bad number, an open blob and an open string are errors
abbrev given_by_place : List String
given_by_place =
    "SPLICE" ∷ "ERROR" ∷ "USE_LANG_BLOB" ∷ "STRING" ∷ "INT" ∷ "STRING" ∷ "" ∷ "" ∷ "CHAR" ∷ "CHAR"
    ∷ "BACKTICK" ∷ "MATCH" ∷ "SEMICOLON_OP" ∷ "IDENT" ∷ "NAME" ∷ "INT" ∷ "UINT8" ∷ "INT8" ∷ "UINT16" ∷ "INT16"
    ∷ "UINT32" ∷ "INT32" ∷ "UINT64" ∷ "INT64" ∷ "SIZET" ∷ "REAL" ∷ "ERROR" ∷ "" ∷ "" ∷ ""
    ∷ "ERROR" ∷ "IDENT" ∷ "PIPE_LEFT" ∷ "PIPE_RIGHT" ∷ "DOT_DOT" ∷ "TILDE" ∷ "OPINFIX0c" ∷ "OPINFIX0c" ∷ "OPINFIX3R" ∷ "OPINFIX4"
    ∷ "OPPREFIX" ∷ "OPINFIX0a" ∷ "OPINFIX0b" ∷ "OPINFIX0c" ∷ "OPINFIX0d" ∷ "OPINFIX1" ∷ "OPINFIX2" ∷ "OPINFIX3L" ∷ "OPINFIX4" ∷ "OP_MIXFIX_ASSIGNMENT"
    ∷ []

pub rules_known : map (λ r. gives (by_rule (0 ∷ []) [] [] (started 1 0) 1 r)) (place_rules 0) ≡ map kind given_by_place
unfolding listed
rules_known = refl

-- and every name of that list is one of the 173, but for the five that stand for no token
abbrev unknown : List ℕ → ℕ
unknown [] = 0
unknown (k ∷ ks) = if known k then unknown ks else 1 + unknown ks

pub places_known : unknown (map kind given_by_place) ≡ 5
unfolding kind kind_names number_from
places_known = refl

-- ---- the search of a table

-- of the words of a table that fit the longest is chosen: at `%splice_t`, `%splice` fits too and stands before it
pub longest_word : (f : Bytes) → select (cps "%splice_t") f 0 ≡ record { place = 1; end = 9; word = 1 }
unfolding
    select places try_all try_words keep one_of_then_symbols lit_then_symbols cps encode_all encode sequence_at sequence char_has byte_has
    star loop match_lit plus one match_ident match_constructor is_digit is_op_char is_symbolchar in_table ascii_table count_up mem_cp
    is_ident_start is_constructor_start is_lower early_literals kw_op_rules op_tokens mixfix_rules
longest_word f = refl
