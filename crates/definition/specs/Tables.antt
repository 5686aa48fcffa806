-- The seven tables of words, as the source spells them and in its order.
use Rattle.std.specs.Prelude.{ℕ, true, false, List, [], ◌∷◌, map, get_or, Option, Some, None}
use Prim.Native.String.{String}
use Rattle.definition.specs.Basics.{Bytes, codes, same}
use Rattle.definition.specs.Utf8.{encode_all}

-- `cps`: "The UTF-8 bytes of a literal; literals are matched byte by byte"
unfoldable pub cps : String → Bytes
cps s = encode_all (codes s)

-- a word with the kind of its token and the token's text. Early literals have no text, and that of a mixfix word is the lexeme
-- (Token), so that none stands here
pub record Entry : Type 0 where
  pub word : String
  pub kind : String
  pub text : String

-- a keyword operator: the word, its kind by itself, and its kind before operator characters
pub record KwOp : Type 0 where
  pub word : String
  pub kind : String
  pub op_kind : String

-- the tables are written as the source writes them: rows of a word, a kind, and a text or a second kind
abbrev pub as_entries : List (String × String × String) → List Entry
as_entries = map (λ x. record { word = x.0; kind = x.1; text = x.2 })

abbrev pub as_kw_ops : List (String × String × String) → List KwOp
as_kw_ops = map (λ x. record { word = x.0; kind = x.1; op_kind = x.2 })

-- the words of a table
abbrev pub words_of : List Entry → List String
words_of = map (λ e. e.word)

-- the entry of a table by its number; one without words past the last
abbrev pub no_entry : Entry
no_entry = record { word = ""; kind = ""; text = "" }

abbrev pub entry : List Entry → ℕ → Entry
entry table w = get_or table w no_entry

-- `M.try_find`
unfoldable pub find : Bytes → List Entry → Option Entry
find id [] = None
find id (e ∷ es) = elim (same (cps e.word) id) [ true ↦ Some e | false ↦ find id es ]

unfoldable pub keywords : List Entry
keywords =
    as_entries
    (("noeq", "NOEQUALITY", "") ∷ ("unopteq", "UNOPTEQUALITY", "") ∷ ("and", "AND", "") ∷ ("assert", "ASSERT", "") ∷
    ("assume", "ASSUME", "") ∷ ("begin", "BEGIN", "") ∷ ("by", "BY", "") ∷ ("calc", "CALC", "") ∷ ("class", "CLASS", "") ∷
    ("decreases", "DECREASES", "") ∷ ("effect", "EFFECT", "") ∷ ("eliminate", "ELIM", "") ∷ ("else", "ELSE", "") ∷ ("end", "END", "") ∷
    ("ensures", "ENSURES", "") ∷ ("exception", "EXCEPTION", "") ∷ ("exists", "EXISTS", "") ∷ ("false", "FALSE", "") ∷
    ("friend", "FRIEND", "") ∷ ("forall", "FORALL", "") ∷ ("fun", "FUN", "") ∷ ("λ", "FUN", "") ∷ ("function", "FUNCTION", "") ∷
    ("if", "IF", "") ∷ ("in", "IN", "") ∷ ("include", "INCLUDE", "") ∷ ("inline", "INLINE", "") ∷
    ("inline_for_extraction", "INLINE_FOR_EXTRACTION", "") ∷ ("instance", "INSTANCE", "") ∷ ("introduce", "INTRO", "") ∷
    ("irreducible", "IRREDUCIBLE", "") ∷ ("let", "LET", "") ∷ ("logic", "LOGIC", "") ∷ ("match", "MATCH", "") ∷
    ("returns", "RETURNS", "") ∷ ("as", "AS", "") ∷ ("module", "MODULE", "") ∷ ("new", "NEW", "") ∷ ("new_effect", "NEW_EFFECT", "") ∷
    ("noextract", "NOEXTRACT", "") ∷ ("of", "OF", "") ∷ ("open", "OPEN", "") ∷ ("opaque", "OPAQUE", "") ∷ ("private", "PRIVATE", "") ∷
    ("quote", "QUOTE", "") ∷ ("range_of", "RANGE_OF", "") ∷ ("rec", "REC", "") ∷ ("reifiable", "REIFIABLE", "") ∷ ("reify", "REIFY", "") ∷
    ("reflectable", "REFLECTABLE", "") ∷ ("requires", "REQUIRES", "") ∷ ("set_range_of", "SET_RANGE_OF", "") ∷
    ("sub_effect", "SUB_EFFECT", "") ∷ ("synth", "SYNTH", "") ∷ ("then", "THEN", "") ∷ ("total", "TOTAL", "") ∷ ("true", "TRUE", "") ∷
    ("try", "TRY", "") ∷ ("type", "TYPE", "") ∷ ("unfold", "UNFOLD", "") ∷ ("unfoldable", "UNFOLDABLE", "") ∷ ("val", "VAL", "") ∷
    ("when", "WHEN", "") ∷ ("with", "WITH", "") ∷ ("_", "UNDERSCORE", "") ∷ ("α", "IDENT", "'a") ∷ ("β", "IDENT", "'b") ∷
    ("γ", "IDENT", "'c") ∷ ("δ", "IDENT", "'d") ∷ ("ε", "IDENT", "'e") ∷ ("φ", "IDENT", "'f") ∷ ("χ", "IDENT", "'g") ∷
    ("η", "IDENT", "'h") ∷ ("ι", "IDENT", "'i") ∷ ("κ", "IDENT", "'k") ∷ ("μ", "IDENT", "'m") ∷ ("ν", "IDENT", "'n") ∷
    ("π", "IDENT", "'p") ∷ ("θ", "IDENT", "'q") ∷ ("ρ", "IDENT", "'r") ∷ ("σ", "IDENT", "'s") ∷ ("τ", "IDENT", "'t") ∷
    ("ψ", "IDENT", "'u") ∷ ("ω", "IDENT", "'w") ∷ ("ξ", "IDENT", "'x") ∷ ("ζ", "IDENT", "'z") ∷ [])

unfoldable pub constructors : List Entry
constructors =
    as_entries
    (("ℕ", "IDENT", "nat") ∷ ("ℤ", "IDENT", "int") ∷ ("𝔹", "IDENT", "bool") ∷ [])

-- "The ASCII operator tokens"
unfoldable pub op_tokens : List Entry
op_tokens =
    as_entries
    (("~", "TILDE", "~") ∷ ("-", "MINUS", "") ∷ ("/\\", "CONJUNCTION", "") ∷ ("\\/", "DISJUNCTION", "") ∷ ("<:", "SUBTYPE", "") ∷
    ("$:", "EQUALTYPE", "") ∷ ("<@", "SUBKIND", "") ∷ ("(|", "LENS_PAREN_LEFT", "") ∷ ("|)", "LENS_PAREN_RIGHT", "") ∷ ("#", "HASH", "") ∷
    ("u#", "UNIV_HASH", "") ∷ ("&", "AMP", "") ∷ ("()", "LPAREN_RPAREN", "") ∷ ("(", "LPAREN", "") ∷ (")", "RPAREN", "") ∷
    (",", "COMMA", "") ∷ ("~>", "SQUIGGLY_RARROW", "") ∷ ("->", "RARROW", "") ∷ ("<--", "LONG_LEFT_ARROW", "") ∷ ("<-", "LARROW", "") ∷
    ("<==>", "IFF", "") ∷ ("==>", "IMPLIES", "") ∷ (".", "DOT", "") ∷ ("?.", "QMARK_DOT", "") ∷ ("?", "QMARK", "") ∷
    (".[|", "DOT_LBRACK_BAR", "") ∷ (".[", "DOT_LBRACK", "") ∷ (".(|", "DOT_LENS_PAREN_LEFT", "") ∷ (".(", "DOT_LPAREN", "") ∷
    ("$", "DOLLAR", "") ∷ ("{:pattern", "LBRACE_COLON_PATTERN", "") ∷ ("{:well-founded", "LBRACE_COLON_WELL_FOUNDED", "") ∷
    (":", "COLON", "") ∷ ("::", "COLON_COLON", "") ∷ (":=", "COLON_EQUALS", "") ∷ (";", "SEMICOLON", "") ∷ ("=", "EQUALS", "") ∷
    ("%[", "PERCENT_LBRACK", "") ∷ ("returns$", "RETURNS_EQ", "") ∷ ("!{", "BANG_LBRACE", "") ∷ ("[@@@", "LBRACK_AT_AT_AT", "") ∷
    ("[@@", "LBRACK_AT_AT", "") ∷ ("[@", "LBRACK_AT", "") ∷ ("[|", "LBRACK_BAR", "") ∷ ("{|", "LBRACE_BAR", "") ∷ ("[", "LBRACK", "") ∷
    ("|>", "PIPE_RIGHT", "") ∷ ("]", "RBRACK", "") ∷ ("|]", "BAR_RBRACK", "") ∷ ("|}", "BAR_RBRACE", "") ∷ ("{", "LBRACE", "") ∷
    ("|", "BAR", "") ∷ ("}", "RBRACE", "") ∷ [])

-- "Unicode operators; only reachable through the [uoperator] rule"
unfoldable pub uoperators : List Entry
uoperators =
    as_entries
    (("∀", "FORALL", "") ∷ ("∃", "EXISTS", "") ∷ ("⊤", "NAME", "True") ∷ ("⊥", "NAME", "False") ∷ ("⟹", "IMPLIES", "") ∷ ("⟺", "IFF", "") ∷
    ("→", "RARROW", "") ∷ ("←", "LARROW", "") ∷ ("⟵", "LONG_LEFT_ARROW", "") ∷ ("↝", "SQUIGGLY_RARROW", "") ∷ ("≔", "COLON_EQUALS", "") ∷
    ("∧", "CONJUNCTION", "") ∷ ("∨", "DISJUNCTION", "") ∷ ("¬", "TILDE", "~") ∷ ("⸬", "COLON_COLON", "") ∷ ("▹", "PIPE_RIGHT", "") ∷
    ("÷", "OPINFIX3L", "÷") ∷ ("‖", "OPINFIX0a", "||") ∷ ("×", "IDENT", "op_Star") ∷ ("∗", "OPINFIX3L", "*") ∷ ("⇒", "OPINFIX0c", "=>") ∷
    ("≥", "OPINFIX0c", ">=") ∷ ("≤", "OPINFIX0c", "<=") ∷ ("≠", "OPINFIX0c", "<>") ∷ ("≪", "OPINFIX0c", "<<") ∷ ("◃", "OPINFIX0c", "<|") ∷
    ("±", "OPPREFIX", "±") ∷ ("∁", "OPPREFIX", "∁") ∷ ("∂", "OPPREFIX", "∂") ∷ ("√", "OPPREFIX", "√") ∷ [])

-- "Fixed literal tokens that come first"
unfoldable pub early_literals : List Entry
early_literals =
    as_entries
    (("%splice", "SPLICE", "") ∷ ("%splice_t", "SPLICET", "") ∷ ("`%", "BACKTICK_PERC", "") ∷ ("`#", "BACKTICK_HASH", "") ∷
    ("`@", "BACKTICK_AT", "") ∷ ("seq![", "SEQ_BANG_LBRACK", "") ∷ ("#show-options", "PRAGMA_SHOW_OPTIONS", "") ∷
    ("#set-options", "PRAGMA_SET_OPTIONS", "") ∷ ("#reset-options", "PRAGMA_RESET_OPTIONS", "") ∷
    ("#push-options", "PRAGMA_PUSH_OPTIONS", "") ∷ ("#pop-options", "PRAGMA_POP_OPTIONS", "") ∷
    ("#restart-solver", "PRAGMA_RESTART_SOLVER", "") ∷ ("#print-effects-graph", "PRAGMA_PRINT_EFFECTS_GRAPH", "") ∷
    ("#check", "PRAGMA_CHECK", "") ∷ ("#eval", "PRAGMA_EVAL", "") ∷ [])

-- "followed by operator characters"; "No keyword-operator word begins another" (computed in crate `table_kw_op`)
unfoldable pub kw_op_rules : List KwOp
kw_op_rules =
    as_kw_ops
    (("match", "MATCH", "MATCH_OP") ∷ ("if", "IF", "IF_OP") ∷ ("let", "LET", "LET_OP") ∷ ("exists", "EXISTS", "EXISTS_OP") ∷
    ("∃", "EXISTS", "EXISTS_OP") ∷ ("forall", "FORALL", "FORALL_OP") ∷ ("∀", "FORALL", "FORALL_OP") ∷ ("and", "AND", "AND_OP") ∷
    (";", "SEMICOLON", "SEMICOLON_OP") ∷ [])

abbrev pub kw_op_words : List String
kw_op_words = map (λ x. x.word) kw_op_rules

abbrev pub no_kw_op : KwOp
no_kw_op = record { word = ""; kind = ""; op_kind = "" }

abbrev pub kw_op_entry : ℕ → KwOp
kw_op_entry w = get_or kw_op_rules w no_kw_op

unfoldable pub mixfix_rules : List Entry
mixfix_rules =
    as_entries
    ((".[]<-", "OP_MIXFIX_ASSIGNMENT", "") ∷ (".()<-", "OP_MIXFIX_ASSIGNMENT", "") ∷ (".(||)<-", "OP_MIXFIX_ASSIGNMENT", "") ∷
    (".[||]<-", "OP_MIXFIX_ASSIGNMENT", "") ∷ (".[]", "OP_MIXFIX_ACCESS", "") ∷ (".()", "OP_MIXFIX_ACCESS", "") ∷
    (".(||)", "OP_MIXFIX_ACCESS", "") ∷ (".[||]", "OP_MIXFIX_ACCESS", "") ∷ [])
