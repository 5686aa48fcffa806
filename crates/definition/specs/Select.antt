-- `select`: what is chosen at an offset. Its 50 places are the `try_` calls of the source, in their order; what each leads to is its
-- rule (Rules).
-- s is the text, f the class file, i an offset.
use Rattle.std.specs.Prelude.{ℕ, suc, ◌+◌, Bool, true, false, ◌||◌, List, [], ◌∷◌, ltb, leb, eqb, if◌then◌else◌, Option, Some, None}
use Prim.Native.Char.{Char}
use Prim.Native.String.{String}
use Rattle.definition.specs.Basics.{Bytes, ch, codes, mem_cp}
use Rattle.definition.specs.Text.{char_has, star}
use Rattle.definition.specs.Chars.{ascii_limit, is_digit, is_anywhite, is_op_char, is_symbolchar, is_uoperator}
use Rattle.definition.specs.Tables.{cps, words_of, early_literals, kw_op_words, op_tokens, mixfix_rules}
use Rattle.definition.specs.Matchers.{
  ◌then◌,
  later,
  max_list,
  only,
  one,
  match_lit,
  plus,
  match_newline,
  match_ident,
  match_constructor,
  match_char_lit,
  any_integer_ends,
  match_int_suffix,
  match_int_usuffix,
  match_real,
  match_bad_number,
  match_backtick_ident,
}
use Rattle.definition.specs.declared.Choice.{Choice}

-- ---- the best so far

-- nothing is chosen yet (`RAny`)
abbrev pub none_at : ℕ → Choice
none_at i = record { place = 0; end = i; word = 0 }

-- `try_`: "if e > i && e > !best_e". An end that is chosen is past i, and so is one that replaces it
unfoldable pub keep : Choice → Choice → Choice
keep best new = if ltb best.end new.end then new else best

-- what a matcher's end is at a place, for a word of its table (0 where it has none)
abbrev pub found : ℕ → ℕ → ℕ → Option ℕ → Choice
found i place word (Some e) = record { place = place; end = e; word = word }
found i place word None = none_at i

-- `List.iter`: each word of a table is tried in turn, from word number w on. The source looks up only the words that begin
-- with the character at i; no other could match
unfoldable pub try_words : ℕ → ℕ → (Bytes → Option ℕ) → ℕ → List String → Choice → Choice
try_words i place m w [] best = best
try_words i place m w (x ∷ xs) best = try_words i place m (suc w) xs (keep best (found i place w (m (cps x))))

-- each place is tried in turn
unfoldable pub try_all : List Choice → Choice → Choice
try_all [] best = best
try_all (p ∷ ps) best = try_all ps (keep best p)

-- ---- the places

-- one of the characters of a string, and all symbol characters after it (`sym_after (one_of ..)`)
unfoldable pub one_of_then_symbols : Bytes → ℕ → String → Option ℕ
one_of_then_symbols s i chars = one (λ c. mem_cp c (codes chars)) s i then λ e. Some (star is_symbolchar s e)

-- `sym_after (match_lit ..)`
unfoldable pub lit_then_symbols : Bytes → ℕ → String → Option ℕ
lit_then_symbols s i word = match_lit s (cps word) i then λ e. Some (star is_symbolchar s e)

-- what each place finds at i, in order. An `under` is an `if` of the source around some `try_` calls
unfoldable pub places : Bytes → Bytes → ℕ → List Choice
places s f i =
    let is : Char → Bool = λ x. char_has (λ c. eqb c (ch x)) s i in
    let beyond_ascii = char_has (λ c. leb ascii_limit c) s i in
    let digit = char_has is_digit s i in
    let op_char = char_has is_op_char s i in
    let lit : String → Option ℕ = λ word. match_lit s (cps word) i in
    let place : ℕ → Option ℕ → Choice = λ k m. found i k 0 m in
    let under : Bool → Option ℕ → Option ℕ = λ t m. only t m in
    let table : ℕ → (Bytes → Option ℕ) → List String → Choice = λ k m xs. try_words i k m 0 xs (none_at i) in
    table 1 (λ x. match_lit s x i) (words_of early_literals)  -- 1 REarly
    ∷ place 2 (under (is "`") (lit "```" then match_ident s f))  -- 2 RTripleBacktick
    ∷ place 3 (under (is "#") (lit "#lang-" then match_ident s f))  -- 3 RLang
    ∷ place 4 (under (is "_") (lit "__SOURCE_FILE__"))  -- 4 RSourceFile
    ∷ place 5 (under (is "_") (lit "__LINE__"))  -- 5 RLine
    ∷ place 6 (under (is "_") (lit "__FILELINE__"))  -- 6 RFileLine
    ∷ place 7 (under beyond_ascii (plus (is_anywhite f) s i))  -- 7 RWhite
    ∷ place 8 (under beyond_ascii (match_newline s i))  -- 8 RNewline
    ∷ place 9 (under (is "'") (match_char_lit s i false))  -- 9 RCharLit
    ∷ place 10 (under (is "'") (match_char_lit s i true))  -- 10 RCharLitB
    ∷ place 11 (under (is "`") (Some (i + 1)))  -- 11 RBacktick
    ∷ table 12 (λ x. match_lit s x i then plus is_op_char s) kw_op_words  -- 12 RKwOp
    ∷ place 13 (under (is ";") (lit ";;"))  -- 13 RSemiSemi
    ∷ place 14 (match_ident s f i)  -- 14 RIdent
    ∷ place 15 (match_constructor s f i)  -- 15 RConstructor
    ∷ place 16 (under digit (max_list (any_integer_ends s i)))  -- 16 RInt
    ∷ place 17 (under digit (later (match_int_usuffix s i (cps "y")) (match_int_suffix s i (cps "z"))))  -- 17 RUInt8
    ∷ place 18 (under digit (match_int_suffix s i (cps "y")))  -- 18 RNumber INT8
    ∷ place 19 (under digit (match_int_usuffix s i (cps "s")))  -- 19 RNumber UINT16
    ∷ place 20 (under digit (match_int_suffix s i (cps "s")))  -- 20 RNumber INT16
    ∷ place 21 (under digit (match_int_usuffix s i (cps "l")))  -- 21 RNumber UINT32
    ∷ place 22 (under digit (match_int_suffix s i (cps "l")))  -- 22 RNumber INT32
    ∷ place 23 (under digit (match_int_usuffix s i (cps "L")))  -- 23 RNumber UINT64
    ∷ place 24 (under digit (match_int_suffix s i (cps "L")))  -- 24 RNumber INT64
    ∷ place 25 (under digit (match_int_suffix s i (cps "sz")))  -- 25 RNumber SIZET
    ∷ place 26 (under digit (match_real s i))  -- 26 RReal
    ∷ place 27 (under digit (match_bad_number s f i))  -- 27 RBadNumber
    ∷ place 28 (under (is "(") (lit "(*"))  -- 28 RCommentStart
    ∷ place 29 (under (is "/") (lit "// IN F*:"))  -- 29 RInFStar
    ∷ place 30 (under (is "/") (lit "//"))  -- 30 RLineComment
    ∷ place 31 (under (is "\"") (Some (i + 1)))  -- 31 RString
    ∷ place 32 (under (is "`") (match_backtick_ident s i))  -- 32 RBacktickIdent
    ∷ place 33 (under (is "<") (lit "<|"))  -- 33 RPipeLeft
    ∷ place 34 (under (is "|") (lit "|>"))  -- 34 RPipeRight
    ∷ place 35 (under (is ".") (lit ".."))  -- 35 RDotDot
    ∷ table 36 (λ x. match_lit s x i) (words_of op_tokens)  -- 36 ROpToken
    ∷ place 37 (under op_char (under (is "<") (Some (i + 1))))  -- 37 RLt
    ∷ place 38 (under op_char (under (is ">") (Some (star is_symbolchar s (i + 1)))))  -- 38 RGt
    ∷ place 39 (under op_char (lit_then_symbols s i "**"))  -- 39 ROp OPINFIX3R
    ∷ place 40 (under op_char (lit_then_symbols s i "|->"))  -- 40 ROp OPINFIX4
    ∷ place 41 (under op_char (one_of_then_symbols s i "!~?"))  -- 41 ROp OPPREFIX
    ∷ place 42 (under op_char (one_of_then_symbols s i "|"))  -- 42 ROp OPINFIX0a
    ∷ place 43 (under op_char (one_of_then_symbols s i "&"))  -- 43 ROp OPINFIX0b
    ∷ place 44 (under op_char (one_of_then_symbols s i "=<"))  -- 44 ROp OPINFIX0c
    ∷ place 45 (under op_char (one_of_then_symbols s i "$"))  -- 45 ROp OPINFIX0d
    ∷ place 46 (under op_char (one_of_then_symbols s i "@^"))  -- 46 ROp OPINFIX1
    ∷ place 47 (under op_char (one_of_then_symbols s i "+-"))  -- 47 ROp OPINFIX2
    ∷ place 48 (under op_char (one_of_then_symbols s i "*/%"))  -- 48 ROp OPINFIX3L
    ∷ place 49 (under beyond_ascii (one (is_uoperator f) s i))  -- 49 RUOperator
    ∷ table 50 (λ x. match_lit s x i) (words_of mixfix_rules)  -- 50 RMixfix
    ∷ []

-- the fast paths first: "rules that are the only ones starting with [c]"
unfoldable pub select : Bytes → Bytes → ℕ → Choice
select s f i =
    elim (char_has (λ c. eqb c (ch " ") || (eqb c (ch "\t") || (eqb c 11 || eqb c 12))) s i) [
      | true ↦ found i 7 0 (plus (is_anywhite f) s i)
      | false ↦ elim (char_has (λ c. eqb c (ch "\n") || eqb c (ch "\r")) s i) [
        | true ↦ found i 8 0 (match_newline s i)
        | false ↦ try_all (places s f i) (none_at i)
      ]
    ]
