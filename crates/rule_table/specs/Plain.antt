-- Tokens that their places and words decide: their kinds and their texts. s is the text, name the file's name, st the state at the
-- choice, k its place, e its end, w its word.
use Rattle.std.specs.Prelude.{ℕ, ◌+◌, ◌-◌, List, [], ◌∷◌, ◌++◌, map, get_or}
use Prim.Native.String.{String}
use Rattle.definition.specs.Basics.{Bytes}
use Rattle.definition.specs.Text.{lexeme}
use Rattle.definition.specs.Tables.{cps, early_literals, op_tokens, mixfix_rules, entry}
use Rattle.definition.specs.Rules.{
  Rule,
  REarly,
  RTripleBacktick,
  RLang,
  RSourceFile,
  RLine,
  RFileLine,
  RWhite,
  RNewline,
  RCharLit,
  RCharLitB,
  RBacktick,
  RKwOp,
  RSemiSemi,
  RIdent,
  RConstructor,
  RInt,
  RUInt8,
  RNumber,
  RReal,
  RBadNumber,
  RCommentStart,
  RInFStar,
  RLineComment,
  RString,
  RBacktickIdent,
  RPipeLeft,
  RPipeRight,
  RDotDot,
  ROpToken,
  RLt,
  RGt,
  ROp,
  RUOperator,
  RMixfix,
  RAny,
  place_rules,
}
use Rattle.definition.specs.Kinds.{kind}
use Rattle.definition.specs.Numbers.{show}
use Rattle.definition.specs.declared.State.{State}
use Rattle.rule_table.specs.Keys.{at_key}
use Rattle.reader.specs.Described.{Sized, Describes}
use Rattle.reader.specs.declared.Payload.{Payload}

-- the name of the kind that a rule gives by itself; none where its word or the text decides
abbrev pub kind_name : Rule → String
kind_name (REarly k) = ""
kind_name RTripleBacktick = ""
kind_name RLang = ""
kind_name RSourceFile = "STRING"
kind_name RLine = "INT"
kind_name RFileLine = "STRING"
kind_name RWhite = ""
kind_name RNewline = ""
kind_name RCharLit = ""
kind_name RCharLitB = ""
kind_name RBacktick = "BACKTICK"
kind_name (RKwOp x) = ""
kind_name RSemiSemi = "SEMICOLON_OP"
kind_name RIdent = ""
kind_name RConstructor = ""
kind_name RInt = "INT"
kind_name RUInt8 = "UINT8"
kind_name (RNumber k) = k
kind_name RReal = "REAL"
kind_name RBadNumber = ""
kind_name RCommentStart = ""
kind_name RInFStar = ""
kind_name RLineComment = ""
kind_name RString = ""
kind_name RBacktickIdent = "IDENT"
kind_name RPipeLeft = "PIPE_LEFT"
kind_name RPipeRight = "PIPE_RIGHT"
kind_name RDotDot = "DOT_DOT"
kind_name (ROpToken k text) = ""
kind_name RLt = "OPINFIX0c"
kind_name RGt = ""
kind_name (ROp k) = k
kind_name RUOperator = ""
kind_name (RMixfix k) = ""
kind_name RAny = ""

-- the names of the kinds of places, by place
unfoldable pub place_kinds : List String
unfolding place_rules
place_kinds = map kind_name (RAny ∷ place_rules 0)

abbrev pub kind_of : ℕ → ℕ
kind_of k = kind (get_or place_kinds k "")

-- the kinds, by the tables of words; else by the place
abbrev pub table_kinds : ℕ → List (ℕ × ℕ)
table_kinds w =
    (50, kind (entry mixfix_rules w).kind)
    ∷ (36, kind (entry op_tokens w).kind)
    ∷ (1, kind (entry early_literals w).kind)
    ∷ []

abbrev pub plain_kind : ℕ → ℕ → ℕ
plain_kind k w = at_key k (table_kinds w) (kind_of k)

-- the texts, by place
abbrev pub plain_texts : Bytes → Bytes → State → ℕ → ℕ → List (ℕ × Bytes)
plain_texts s name st e w =
    (50, lexeme s st.offset e)
    ∷ (37, cps "<")
    ∷ (36, cps (entry op_tokens w).text)
    ∷ (32, lexeme s (st.offset + 2) (e - 2))
    ∷ (26, lexeme s st.offset (e - 1))
    ∷ (6, name ++ (cps "(" ++ (show st.line ++ cps ")")))
    ∷ (5, show st.line)
    ∷ (4, name)
    ∷ []

abbrev pub plain_text : Bytes → Bytes → State → ℕ → ℕ → ℕ → Bytes
plain_text s name st k e w = at_key k (plain_texts s name st e w) []

-- p describes these bytes, and they are not too many
pub record Gives (s name : Bytes) (p : Payload) (bytes : Bytes) : Type 0 where
  pub sized : Sized name p
  pub describes : (f : Bytes) → Describes s name f p bytes
