-- The kinds of tokens, "numbered from 1 by first appearance in the Lexer file's code, comments not counted".
use Rattle.std.specs.Prelude.{ℕ, suc, true, false, List, [], ◌∷◌}
use Prim.Native.String.{String}
use lib.Text.{eqt}

-- the constructors of the source's `token_kind` in the order in which its code first names them
unfoldable pub kind_names : List String
kind_names =
    "NOEQUALITY" ∷ "UNOPTEQUALITY" ∷ "AND" ∷ "ASSERT" ∷ "ASSUME" ∷ "BEGIN" ∷ "BY" ∷ "CALC" ∷ "CLASS" ∷ "DECREASES" ∷ "EFFECT" ∷
    "ELIM" ∷ "ELSE" ∷ "END" ∷ "ENSURES" ∷ "EXCEPTION" ∷ "EXISTS" ∷ "FALSE" ∷ "FRIEND" ∷ "FORALL" ∷ "FUN" ∷ "FUNCTION" ∷ "IF" ∷
    "IN" ∷ "INCLUDE" ∷ "INLINE" ∷ "INLINE_FOR_EXTRACTION" ∷ "INSTANCE" ∷ "INTRO" ∷ "IRREDUCIBLE" ∷ "LET" ∷ "LOGIC" ∷ "MATCH" ∷
    "RETURNS" ∷ "AS" ∷ "MODULE" ∷ "NEW" ∷ "NEW_EFFECT" ∷ "NOEXTRACT" ∷ "OF" ∷ "OPEN" ∷ "OPAQUE" ∷ "PRIVATE" ∷ "QUOTE" ∷
    "RANGE_OF" ∷ "REC" ∷ "REIFIABLE" ∷ "REIFY" ∷ "REFLECTABLE" ∷ "REQUIRES" ∷ "SET_RANGE_OF" ∷ "SUB_EFFECT" ∷ "SYNTH" ∷ "THEN" ∷
    "TOTAL" ∷ "TRUE" ∷ "TRY" ∷ "TYPE" ∷ "UNFOLD" ∷ "UNFOLDABLE" ∷ "VAL" ∷ "WHEN" ∷ "WITH" ∷ "UNDERSCORE" ∷ "IDENT" ∷ "TILDE" ∷
    "MINUS" ∷ "CONJUNCTION" ∷ "DISJUNCTION" ∷ "SUBTYPE" ∷ "EQUALTYPE" ∷ "SUBKIND" ∷ "LENS_PAREN_LEFT" ∷ "LENS_PAREN_RIGHT" ∷
    "HASH" ∷ "UNIV_HASH" ∷ "AMP" ∷ "LPAREN_RPAREN" ∷ "LPAREN" ∷ "RPAREN" ∷ "COMMA" ∷ "SQUIGGLY_RARROW" ∷ "RARROW" ∷
    "LONG_LEFT_ARROW" ∷ "LARROW" ∷ "IFF" ∷ "IMPLIES" ∷ "DOT" ∷ "QMARK_DOT" ∷ "QMARK" ∷ "DOT_LBRACK_BAR" ∷ "DOT_LBRACK" ∷
    "DOT_LENS_PAREN_LEFT" ∷ "DOT_LPAREN" ∷ "DOLLAR" ∷ "LBRACE_COLON_PATTERN" ∷ "LBRACE_COLON_WELL_FOUNDED" ∷ "COLON" ∷
    "COLON_COLON" ∷ "COLON_EQUALS" ∷ "SEMICOLON" ∷ "EQUALS" ∷ "PERCENT_LBRACK" ∷ "RETURNS_EQ" ∷ "BANG_LBRACE" ∷
    "LBRACK_AT_AT_AT" ∷ "LBRACK_AT_AT" ∷ "LBRACK_AT" ∷ "LBRACK_BAR" ∷ "LBRACE_BAR" ∷ "LBRACK" ∷ "PIPE_RIGHT" ∷ "RBRACK" ∷
    "BAR_RBRACK" ∷ "BAR_RBRACE" ∷ "LBRACE" ∷ "BAR" ∷ "RBRACE" ∷ "NAME" ∷ "OPINFIX3L" ∷ "OPINFIX0a" ∷ "OPINFIX0c" ∷ "OPPREFIX" ∷
    "SPLICE" ∷ "SPLICET" ∷ "BACKTICK_PERC" ∷ "BACKTICK_HASH" ∷ "BACKTICK_AT" ∷ "SEQ_BANG_LBRACK" ∷ "PRAGMA_SHOW_OPTIONS" ∷
    "PRAGMA_SET_OPTIONS" ∷ "PRAGMA_RESET_OPTIONS" ∷ "PRAGMA_PUSH_OPTIONS" ∷ "PRAGMA_POP_OPTIONS" ∷ "PRAGMA_RESTART_SOLVER" ∷
    "PRAGMA_PRINT_EFFECTS_GRAPH" ∷ "PRAGMA_CHECK" ∷ "PRAGMA_EVAL" ∷ "MATCH_OP" ∷ "IF_OP" ∷ "LET_OP" ∷ "EXISTS_OP" ∷ "FORALL_OP" ∷
    "AND_OP" ∷ "SEMICOLON_OP" ∷ "OP_MIXFIX_ASSIGNMENT" ∷ "OP_MIXFIX_ACCESS" ∷ "STRING" ∷ "BLOB" ∷ "USE_LANG_BLOB" ∷ "INT8" ∷
    "UINT16" ∷ "INT16" ∷ "UINT32" ∷ "INT32" ∷ "UINT64" ∷ "INT64" ∷ "SIZET" ∷ "OPINFIX3R" ∷ "OPINFIX4" ∷ "OPINFIX0b" ∷
    "OPINFIX0d" ∷ "OPINFIX1" ∷ "OPINFIX2" ∷ "EOF" ∷ "INT" ∷ "CHAR" ∷ "BACKTICK" ∷ "UINT8" ∷ "REAL" ∷ "PIPE_LEFT" ∷ "DOT_DOT" ∷
    "ERROR" ∷ []

-- the number of a name that stands in a list whose first is numbered n
unfoldable pub number_from : ℕ → List String → String → ℕ
number_from n [] name = 0
number_from n (k ∷ ks) name = elim (eqt k name) [ true ↦ n | false ↦ number_from (suc n) ks name ]

-- the number of a kind; 0 for a name that is none
unfoldable pub kind : String → ℕ
kind name = number_from 1 kind_names name
