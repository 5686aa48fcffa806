-- What may be chosen at an offset by the character that stands there: the places that may begin with it, in order, without the tests that
-- it passes. That each group is what `select` chooses at its characters is proved in the crate `select`.
-- s is the text, f the class file, i the offset.
use Rattle.std.specs.Prelude.{ℕ, ◌+◌, true, false, eqb, Option, Some}
use Rattle.definition.specs.Basics.{Bytes}
use Rattle.definition.specs.Text.{star}
use Rattle.definition.specs.Chars.{is_op_char, is_symbolchar, is_ident_start, is_constructor_start, is_ident_char, is_anywhite, is_newline_char, is_uoperator}
use Rattle.definition.specs.Tables.{cps, early_literals, op_tokens, mixfix_rules, words_of, kw_op_words}
use Rattle.definition.specs.Matchers.{
  ◌then◌,
  later,
  max_list,
  only,
  match_lit,
  plus,
  match_ident,
  match_char_lit,
  any_integer_ends,
  match_int_suffix,
  match_int_usuffix,
  match_real,
  match_bad_number,
  match_backtick_ident,
}
use Rattle.definition.specs.Select.{none_at, keep, found, try_words, lit_then_symbols}
use Rattle.definition.specs.declared.Choice.{Choice}

-- ---- tables and parts

abbrev pub early : Bytes → ℕ → Choice
early s i = try_words i 1 (λ w. match_lit s w i) 0 (words_of early_literals) (none_at i)

abbrev pub keyword : Bytes → ℕ → Choice
keyword s i = try_words i 12 (λ w. match_lit s w i then plus is_op_char s) 0 kw_op_words (none_at i)

abbrev pub token : Bytes → ℕ → Choice
token s i = try_words i 36 (λ w. match_lit s w i) 0 (words_of op_tokens) (none_at i)

abbrev pub mixfix : Bytes → ℕ → Choice
mixfix s i = try_words i 50 (λ w. match_lit s w i) 0 (words_of mixfix_rules) (none_at i)

-- the character at i and the symbol characters after it
abbrev pub symbols_after : Bytes → ℕ → Option ℕ
symbols_after s i = Some (star is_symbolchar s (i + 1))

-- the first choice that is tried, and that of a place
abbrev pub first : ℕ → Choice → Choice
first i new = keep (none_at i) new

abbrev pub alone : ℕ → ℕ → Option ℕ → Choice
alone i place m = first i (found i place 0 m)

infixl 2 ◌or◌
-- a choice after others
abbrev pub ◌or◌ : Choice → Choice → Choice
best or new = keep best new

-- the character at i and the identifier characters after it
abbrev pub name_after : Bytes → Bytes → ℕ → Option ℕ
name_after s f i = Some (star (is_ident_char f) s (i + 1))

-- ---- letters

-- a capital letter
abbrev pub at_capital : Bytes → Bytes → ℕ → Choice
at_capital s f i = alone i 15 (name_after s f i)

-- a small letter with which only identifiers begin
abbrev pub at_letter : Bytes → Bytes → ℕ → Choice
at_letter s f i = alone i 14 (name_after s f i)

-- s
abbrev pub at_early_letter : Bytes → Bytes → ℕ → Choice
at_early_letter s f i = first i (early s i) or found i 14 0 (name_after s f i)

-- a, e, f, i, l, m
abbrev pub at_keyword_letter : Bytes → Bytes → ℕ → Choice
at_keyword_letter s f i = first i (keyword s i) or found i 14 0 (name_after s f i)

-- r, u
abbrev pub at_token_letter : Bytes → Bytes → ℕ → Choice
at_token_letter s f i = at_letter s f i or token s i

-- _
abbrev pub at_underscore : Bytes → Bytes → ℕ → Choice
at_underscore s f i =
    alone i 4 (match_lit s (cps "__SOURCE_FILE__") i)
    or found i 5 0 (match_lit s (cps "__LINE__") i)
    or found i 6 0 (match_lit s (cps "__FILELINE__") i)
    or found i 14 0 (name_after s f i)

-- ---- quotes

-- '
abbrev pub at_quote : Bytes → Bytes → ℕ → Choice
at_quote s f i =
    alone i 9 (match_char_lit s i false)
    or found i 10 0 (match_char_lit s i true)
    or found i 14 0 (name_after s f i)

-- `
abbrev pub at_backtick : Bytes → Bytes → ℕ → Choice
at_backtick s f i =
    first i (early s i)
    or found i 2 0 (match_lit s (cps "```") i then match_ident s f)
    or found i 11 0 (Some (i + 1))
    or found i 32 0 (match_backtick_ident s i)

-- "
abbrev pub at_double_quote : ℕ → Choice
at_double_quote i = alone i 31 (Some (i + 1))

-- ---- operators

-- symbol characters alone
abbrev pub at_operator : Bytes → ℕ → ℕ → Choice
at_operator s i place = alone i place (symbols_after s i)

-- an operator token alone
abbrev pub at_token : Bytes → ℕ → Choice
at_token s i = first i (token s i)

-- an operator token, or symbol characters
abbrev pub at_token_operator : Bytes → ℕ → ℕ → Choice
at_token_operator s i place = at_token s i or found i place 0 (symbols_after s i)

-- #
abbrev pub at_hash : Bytes → Bytes → ℕ → Choice
at_hash s f i = first i (early s i) or found i 3 0 (match_lit s (cps "#lang-") i then match_ident s f) or token s i

-- %
abbrev pub at_percent : Bytes → ℕ → Choice
at_percent s i = first i (early s i) or token s i or found i 48 0 (symbols_after s i)

-- ;
abbrev pub at_semicolon : Bytes → ℕ → Choice
at_semicolon s i = first i (keyword s i) or found i 13 0 (match_lit s (cps ";;") i) or token s i

-- (
abbrev pub at_paren : Bytes → ℕ → Choice
at_paren s i = alone i 28 (match_lit s (cps "(*") i) or token s i

-- /
abbrev pub at_slash : Bytes → ℕ → Choice
at_slash s i =
    alone i 29 (match_lit s (cps "// IN F*:") i)
    or found i 30 0 (match_lit s (cps "//") i)
    or token s i
    or found i 48 0 (symbols_after s i)

-- <
abbrev pub at_less : Bytes → ℕ → Choice
at_less s i =
    alone i 33 (match_lit s (cps "<|") i)
    or token s i
    or found i 37 0 (Some (i + 1))
    or found i 44 0 (symbols_after s i)

-- |
abbrev pub at_bar : Bytes → ℕ → Choice
at_bar s i =
    alone i 34 (match_lit s (cps "|>") i)
    or token s i
    or found i 40 0 (lit_then_symbols s i "|->")
    or found i 42 0 (symbols_after s i)

-- .
abbrev pub at_point : Bytes → ℕ → Choice
at_point s i = alone i 35 (match_lit s (cps "..") i) or token s i or mixfix s i

-- *
abbrev pub at_star : Bytes → ℕ → Choice
at_star s i = alone i 39 (lit_then_symbols s i "**") or found i 48 0 (symbols_after s i)

-- ---- numbers

-- an unsigned 8-bit integer
abbrev pub byte_integer : Bytes → ℕ → Option ℕ
byte_integer s i = later (match_int_usuffix s i (cps "y")) (match_int_suffix s i (cps "z"))

abbrev pub at_integers : Bytes → ℕ → Choice
at_integers s i =
    alone i 16 (max_list (any_integer_ends s i))
    or found i 17 0 (byte_integer s i)
    or found i 18 0 (match_int_suffix s i (cps "y"))
    or found i 19 0 (match_int_usuffix s i (cps "s"))
    or found i 20 0 (match_int_suffix s i (cps "s"))
    or found i 21 0 (match_int_usuffix s i (cps "l"))
    or found i 22 0 (match_int_suffix s i (cps "l"))
    or found i 23 0 (match_int_usuffix s i (cps "L"))
    or found i 24 0 (match_int_suffix s i (cps "L"))
    or found i 25 0 (match_int_suffix s i (cps "sz"))

abbrev pub at_digit : Bytes → Bytes → ℕ → Choice
at_digit s f i = at_integers s i or found i 26 0 (match_real s i) or found i 27 0 (match_bad_number s f i)

-- ---- a character c beyond ASCII, with the offset j after it

-- a keyword operator, with which only ∀ and ∃ begin
abbrev pub quantified : Bytes → ℕ → ℕ → Choice
quantified s i c = elim (eqb c 0x2200) [ true ↦ keyword s i | false ↦ elim (eqb c 0x2203) [ true ↦ keyword s i | false ↦ none_at i ] ]

abbrev pub at_beyond_ascii : Bytes → Bytes → ℕ → ℕ → ℕ → Choice
at_beyond_ascii s f i c j =
    alone i 7 (only (is_anywhite f c) (Some (star (is_anywhite f) s j)))
    or found i 8 0 (only (is_newline_char c) (Some j))
    or quantified s i c
    or found i 14 0 (only (is_ident_start c) (Some (star (is_ident_char f) s j)))
    or found i 15 0 (only (is_constructor_start f c) (Some (star (is_ident_char f) s j)))
    or found i 49 0 (only (is_uoperator f c) (Some j))
