-- `next_token`: what is done with each choice. A step of the lexer is one item, with the state after it.
-- s is the text, name the file's name, f the class file.
use Rattle.std.specs.Prelude.{ℕ, ◌+◌, ◌-◌, Bool, true, false, List, [], ◌∷◌, ◌++◌, ltb, leb, eqb, length, take, Some, None}
use Prim.Native.String.{String}
use Rattle.definition.specs.Basics.{Bytes, Turn, again, done, loop, fuel, ch, same}
use Rattle.definition.specs.Text.{lexeme}
use Rattle.definition.specs.Tables.{Entry, KwOp, cps, find, keywords, constructors, uoperators}
use Rattle.definition.specs.Position.{pos_of, cur_pos}
use Rattle.definition.specs.Kinds.{kind}
use Rattle.definition.specs.Matchers.{no_comment}
use Rattle.definition.specs.Rules.{
  Rule,
  REarly,
  RTripleBacktick,
  RLang,
  RSourceFile,
  RLine,
  RFileLine,
  RWhite,
  RNewline,
  RCharLit,
  RCharLitB,
  RBacktick,
  RKwOp,
  RSemiSemi,
  RIdent,
  RConstructor,
  RInt,
  RUInt8,
  RNumber,
  RReal,
  RBadNumber,
  RCommentStart,
  RInFStar,
  RLineComment,
  RString,
  RBacktickIdent,
  RPipeLeft,
  RPipeRight,
  RDotDot,
  ROpToken,
  RLt,
  RGt,
  ROp,
  RUOperator,
  RMixfix,
  RAny,
  chosen_rule,
}
use Rattle.definition.specs.Select.{select}
use Rattle.definition.specs.Numbers.{clean_number, int_of_string, show}
use Rattle.definition.specs.Escapes.{unescape}
use Rattle.definition.specs.State.{advance, new_line, ended, open_comment}
use Rattle.definition.specs.Item.{Step, tok, lex_error, error_here}
use Rattle.definition.specs.Comment.{comment, line_comment}
use Rattle.definition.specs.Strings.{string_lit}
use Rattle.definition.specs.Blob.{Header, blob, use_lang}
use Rattle.definition.specs.declared.Choice.{Choice}
use Rattle.definition.specs.declared.State.{State}
use Rattle.definition.specs.declared.Extra.TheVariants.{NoExtra, CharLit}

-- a call of `next_token`: it calls itself after what it skips, or it gives an item
abbrev pub TokenTurn : Type 0
TokenTurn = Turn State Step

-- "`Ident.reserved_prefix` is five bytes, the letter u twice and then three underscores, tested on identifiers only" (`ident`)
abbrev pub reserved_prefix : Bytes
reserved_prefix = cps "uu___"

unfoldable pub starts_with : Bytes → Bytes → Bool
starts_with id prefix = same (take (length prefix) id) prefix

-- ---- the rules. st is the state at the choice, e the part's end

-- `finish`
abbrev pub finish : Bytes → State → ℕ → ℕ → Bytes → TokenTurn
finish s st e k text = let next = advance st e in done (tok k text st.offset (cur_pos s st) (cur_pos s next) NoExtra next)

-- a token of a kind and a text that a table has
abbrev pub finish_entry : Bytes → State → ℕ → Entry → TokenTurn
finish_entry s st e x = finish s st e (kind x.kind) (cps x.text)

-- a token that its word decides, or the kind and text given where it is no word of the table
abbrev pub finish_word : Bytes → State → ℕ → List Entry → String → TokenTurn
finish_word s st e table k =
    let id = lexeme s st.offset e in
    elim (find id table) [ Some x ↦ finish_entry s st e x | None ↦ finish s st e (kind k) id ]

-- the header of a blob whose name begins after n bytes
abbrev pub blob_header : Bytes → State → ℕ → ℕ → Header
blob_header s st e n = record { name = lexeme s (st.offset + n) e; pos = pos_of s st e; snap = cur_pos s st; start = st.offset }

-- `RCharLit`, `RCharLitB`
abbrev pub char_lit : Bytes → State → ℕ → TokenTurn
char_lit s st e =
    let next = advance st e in
    done (tok (kind "CHAR") [] st.offset (cur_pos s st) (cur_pos s next) (CharLit (unescape s (st.offset + 1))) next)

-- `RKwOp`
abbrev pub kw_op : Bytes → State → ℕ → KwOp → TokenTurn
kw_op s st e x =
    let i = st.offset in
    let next = advance st (no_comment s i e) in
    let rest = lexeme s (i + length (cps x.word)) next.offset in
    done (tok (elim rest [ [] ↦ kind x.kind | b ∷ l ↦ kind x.op_kind ]) rest i (cur_pos s st) (cur_pos s next) NoExtra next)

-- `RIdent`
abbrev pub ident : Bytes → State → ℕ → TokenTurn
ident s st e =
    elim (starts_with (lexeme s st.offset e) reserved_prefix) [
      | true ↦ done (lex_error s st 3 [] (cur_pos s st) (pos_of s st e))
      | false ↦ finish_word s st e keywords "IDENT"
    ]

-- `RInt`, `RNumber`
abbrev pub number : Bytes → State → ℕ → String → TokenTurn
number s st e k = finish s st e (kind k) (clean_number (lexeme s st.offset e))

-- `RUInt8`
abbrev pub uint8 : Bytes → State → ℕ → TokenTurn
uint8 s st e =
    let c = clean_number (lexeme s st.offset e) in
    elim (ltb 255 (int_of_string c)) [
      | true ↦ done (lex_error s st 4 [] (cur_pos s st) (pos_of s st e))
      | false ↦ finish s st e (kind "UINT8") c
    ]

-- `RBadNumber`
abbrev pub bad_number : Bytes → State → ℕ → TokenTurn
bad_number s st e = done (lex_error s st 5 (lexeme s st.offset e) (cur_pos s st) (pos_of s st e))

-- `RCommentStart`
abbrev pub comment_start : Bytes → State → ℕ → TokenTurn
comment_start s st e = done (comment s st.offset (open_comment (advance st e) (cur_pos s st)))

-- `RGt`: "sedlex restarts the match after the '>', so the token starts there", by its position. By its bytes it doesn't: document 02 has
-- "A `>` token starts at its `>`"
abbrev pub gt : Bytes → State → ℕ → TokenTurn
gt s st e =
    let i = st.offset in
    let j = i + 1 in
    let next = advance st (no_comment s j e) in
    done (tok (kind "OPINFIX0c") (ch ">" ∷ lexeme s j next.offset) i (pos_of s st j) (cur_pos s next) NoExtra next)

-- `ROp`; cut to nothing it is "a line comment"
abbrev pub op : Bytes → State → ℕ → String → TokenTurn
op s st e k =
    let i = st.offset in
    let e' = no_comment s i e in
    elim (eqb e' i) [
      | true ↦ done (line_comment s i [] st)
      | false ↦ finish s st e' (kind k) (lexeme s i e')
    ]

-- `RAny`: "unexpected char"
abbrev pub any : Bytes → State → TokenTurn
any s st = done (error_here s st 6)

-- what each rule does with a choice that ends at e, in the source's order
abbrev pub by_rule : Bytes → Bytes → Bytes → State → ℕ → Rule → TokenTurn
by_rule s name f st e (REarly k) = finish s st e (kind k) []
by_rule s name f st e RTripleBacktick = done (blob s (blob_header s st e 3) (advance st e))
by_rule s name f st e RLang = done (use_lang s (blob_header s st e 6) (advance st e))
by_rule s name f st e RSourceFile = finish s st e (kind "STRING") name
by_rule s name f st e RLine = finish s st e (kind "INT") (show st.line)
by_rule s name f st e RFileLine = finish s st e (kind "STRING") (name ++ (cps "(" ++ (show st.line ++ cps ")")))
by_rule s name f st e RWhite = again (advance st e)
by_rule s name f st e RNewline = again (new_line (advance st e))
by_rule s name f st e RCharLit = char_lit s st e
by_rule s name f st e RCharLitB = char_lit s st e
by_rule s name f st e RBacktick = finish s st e (kind "BACKTICK") []
by_rule s name f st e (RKwOp x) = kw_op s st e x
by_rule s name f st e RSemiSemi = finish s st e (kind "SEMICOLON_OP") []
by_rule s name f st e RIdent = ident s st e
by_rule s name f st e RConstructor = finish_word s st e constructors "NAME"
by_rule s name f st e RInt = number s st e "INT"
by_rule s name f st e RUInt8 = uint8 s st e
by_rule s name f st e (RNumber k) = number s st e k
by_rule s name f st e RReal = finish s st e (kind "REAL") (lexeme s st.offset (e - 1))
by_rule s name f st e RBadNumber = bad_number s st e
by_rule s name f st e RCommentStart = comment_start s st e
by_rule s name f st e RInFStar = again (advance st e)
by_rule s name f st e RLineComment = done (line_comment s st.offset (lexeme s st.offset e) (advance st e))
by_rule s name f st e RString = done (string_lit s f (advance st e) st.offset (cur_pos s st))
by_rule s name f st e RBacktickIdent = finish s st e (kind "IDENT") (lexeme s (st.offset + 2) (e - 2))
by_rule s name f st e RPipeLeft = finish s st e (kind "PIPE_LEFT") []
by_rule s name f st e RPipeRight = finish s st e (kind "PIPE_RIGHT") []
by_rule s name f st e RDotDot = finish s st e (kind "DOT_DOT") []
by_rule s name f st e (ROpToken k text) = finish s st e (kind k) (cps text)
by_rule s name f st e RLt = finish s st e (kind "OPINFIX0c") (cps "<")
by_rule s name f st e RGt = gt s st e
by_rule s name f st e (ROp k) = op s st e k
by_rule s name f st e RUOperator = finish_word s st e uoperators "OPINFIX4"
by_rule s name f st e (RMixfix k) = finish s st e (kind k) (lexeme s st.offset e)
by_rule s name f st e RAny = any s st

-- what is done with a choice
unfoldable pub act : Bytes → Bytes → Bytes → State → Choice → TokenTurn
act s name f st c = by_rule s name f st c.end (chosen_rule c)

-- one call of `next_token`
unfoldable pub token_turn : Bytes → Bytes → Bytes → State → TokenTurn
token_turn s name f st =
    elim (leb (length s) st.offset) [
      | true ↦ done (tok (kind "EOF") [] st.offset (cur_pos s st) (cur_pos s st) NoExtra (ended st))
      | false ↦ act s name f st (select s f st.offset)
    ]

unfoldable pub next_token : Bytes → Bytes → Bytes → State → Step
next_token s name f st = loop (token_turn s name f) (λ a. error_here s a 6) (fuel s) st

-- ---- a step: the next item from a state that has not ended. In mode 1 it is the next piece of the comment that is open

unfoldable pub step : Bytes → Bytes → Bytes → State → Step
step s name f st = elim (eqb st.mode 1) [ true ↦ comment s st.offset st | false ↦ next_token s name f st ]
