-- What the source's rules lead to, the rule of each place, and what a rule does. s is the text, name the file's name, f the class file,
-- st the state at the choice, k its place, e its end, w its word.
use Rattle.std.specs.Prelude.{ℕ, List, ◌∷◌, map, get_or}
use Rattle.definition.specs.Basics.{Bytes, again, done}
use Rattle.definition.specs.Text.{lexeme}
use Rattle.definition.specs.Tables.{constructors, uoperators, kw_op_entry}
use Rattle.definition.specs.Rules.{
  Rule as SourceRule,
  REarly,
  RTripleBacktick,
  RLang,
  RSourceFile,
  RLine,
  RFileLine,
  RWhite,
  RNewline,
  RCharLit,
  RCharLitB,
  RBacktick,
  RKwOp,
  RSemiSemi,
  RIdent,
  RConstructor,
  RInt,
  RUInt8,
  RNumber,
  RReal,
  RBadNumber,
  RCommentStart,
  RInFStar,
  RLineComment,
  RString,
  RBacktickIdent,
  RPipeLeft,
  RPipeRight,
  RDotDot,
  ROpToken,
  RLt,
  RGt,
  ROp,
  RUOperator,
  RMixfix,
  RAny,
  place_rules,
}
use Rattle.definition.specs.Position.{cur_pos}
use Rattle.definition.specs.State.{advance, new_line}
use Rattle.definition.specs.Comment.{line_comment}
use Rattle.definition.specs.Strings.{string_lit}
use Rattle.definition.specs.Blob.{blob, use_lang}
use Rattle.definition.specs.Token.{TokenTurn, finish, finish_word, blob_header, char_lit, kw_op, ident, number, uint8, bad_number, comment_start, gt, op, any}
use Rattle.definition.specs.declared.State.{State}
use Rattle.rule_table.specs.Plain.{place_kinds, plain_kind, plain_text}
use Rattle.rule_table.specs.declared.table.Rule.{Rule}
use Rattle.rule_table.specs.declared.table.Rule.TheVariants.{White, Newline, Action, Reader}
use Rattle.rule_table.specs.declared.table.ActionRule.{ActionRule}
use Rattle.rule_table.specs.declared.table.ActionRule.TheVariants.{Plain, KwOp, Ident, Constructor, Number, UInt8, BadNumber, Gt, Op, UOperator}
use Rattle.rule_table.specs.declared.table.ReaderRule.{ReaderRule}
use Rattle.rule_table.specs.declared.table.ReaderRule.TheVariants.{TripleBacktick, Lang, CharLit, CommentStart, LineComment, StringLit, Any}

-- what each of the source's rules leads to
abbrev pub leads_to : SourceRule → Rule
leads_to (REarly k) = Action Plain
leads_to RTripleBacktick = Reader TripleBacktick
leads_to RLang = Reader Lang
leads_to RSourceFile = Action Plain
leads_to RLine = Action Plain
leads_to RFileLine = Action Plain
leads_to RWhite = White
leads_to RNewline = Newline
leads_to RCharLit = Reader CharLit
leads_to RCharLitB = Reader CharLit
leads_to RBacktick = Action Plain
leads_to (RKwOp x) = Action KwOp
leads_to RSemiSemi = Action Plain
leads_to RIdent = Action Ident
leads_to RConstructor = Action Constructor
leads_to RInt = Action Number
leads_to RUInt8 = Action UInt8
leads_to (RNumber k) = Action Number
leads_to RReal = Action Plain
leads_to RBadNumber = Action BadNumber
leads_to RCommentStart = Reader CommentStart
leads_to RInFStar = White
leads_to RLineComment = Reader LineComment
leads_to RString = Reader StringLit
leads_to RBacktickIdent = Action Plain
leads_to RPipeLeft = Action Plain
leads_to RPipeRight = Action Plain
leads_to RDotDot = Action Plain
leads_to (ROpToken k text) = Action Plain
leads_to RLt = Action Plain
leads_to RGt = Action Gt
leads_to (ROp k) = Action Op
leads_to RUOperator = Action UOperator
leads_to (RMixfix k) = Action Plain
leads_to RAny = Reader Any

-- the rule of each place; place 0 is that of no choice
unfoldable pub rule_list : List Rule
unfolding place_rules
rule_list = map leads_to (RAny ∷ place_rules 0)

abbrev pub rule_of : ℕ → Rule
rule_of k = get_or rule_list k (Reader Any)

-- what a rule gives that gives an action
abbrev pub action_does : Bytes → Bytes → ActionRule → State → ℕ → ℕ → ℕ → TokenTurn
action_does s name Plain st k e w = finish s st e (plain_kind k w) (plain_text s name st k e w)
action_does s name KwOp st k e w = kw_op s st e (kw_op_entry w)
action_does s name Ident st k e w = ident s st e
action_does s name Constructor st k e w = finish_word s st e constructors "NAME"
action_does s name Number st k e w = number s st e (get_or place_kinds k "")
action_does s name UInt8 st k e w = uint8 s st e
action_does s name BadNumber st k e w = bad_number s st e
action_does s name Gt st k e w = gt s st e
action_does s name Op st k e w = op s st e (get_or place_kinds k "")
action_does s name UOperator st k e w = finish_word s st e uoperators "OPINFIX4"

-- what a rule gives that reads for itself
abbrev pub reader_does : Bytes → Bytes → ReaderRule → State → ℕ → TokenTurn
reader_does s f TripleBacktick st e = done (blob s (blob_header s st e 3) (advance st e))
reader_does s f Lang st e = done (use_lang s (blob_header s st e 6) (advance st e))
reader_does s f CharLit st e = char_lit s st e
reader_does s f CommentStart st e = comment_start s st e
reader_does s f LineComment st e = done (line_comment s st.offset (lexeme s st.offset e) (advance st e))
reader_does s f StringLit st e = done (string_lit s f (advance st e) st.offset (cur_pos s st))
reader_does s f Any st e = any s st

-- what a rule does
abbrev pub does : Bytes → Bytes → Bytes → Rule → State → ℕ → ℕ → ℕ → TokenTurn
does s name f White st k e w = again (advance st e)
does s name f Newline st k e w = again (new_line (advance st e))
does s name f (Action r) st k e w = action_does s name r st k e w
does s name f (Reader r) st k e w = reader_does s f r st e
