-- The source's `rule`: what a choice leads to, and the rule of each of `select`'s 50 places.
use Rattle.std.specs.Prelude.{ℕ, List, [], ◌∷◌, get_or}
use Prim.Native.String.{String}
use Rattle.definition.specs.Tables.{KwOp, entry, kw_op_entry, op_tokens, early_literals, mixfix_rules}
use Rattle.definition.specs.declared.Choice.{Choice}

-- a kind is given by its name. `RKwOp` holds the whole row of its word. The source's `REof` is left out: "`REof` is never chosen"; no
-- `try_` names it, and the text's end is seen before a choice is made (`token_turn`)
pub data Rule : Type 0 where
  REarly : String → Rule
  RTripleBacktick : Rule
  RLang : Rule
  RSourceFile : Rule
  RLine : Rule
  RFileLine : Rule
  RWhite : Rule
  RNewline : Rule
  RCharLit : Rule
  RCharLitB : Rule
  RBacktick : Rule
  RKwOp : KwOp → Rule
  RSemiSemi : Rule
  RIdent : Rule
  RConstructor : Rule
  RInt : Rule
  RUInt8 : Rule
  RNumber : String → Rule
  RReal : Rule
  RBadNumber : Rule
  RCommentStart : Rule
  RInFStar : Rule
  RLineComment : Rule
  RString : Rule
  RBacktickIdent : Rule
  RPipeLeft : Rule
  RPipeRight : Rule
  RDotDot : Rule
  ROpToken : String → String → Rule
  RLt : Rule
  RGt : Rule
  ROp : String → Rule
  RUOperator : Rule
  RMixfix : String → Rule
  RAny : Rule

-- the first argument of each `try_` call, in order; w is the word of the place's table
unfoldable pub place_rules : ℕ → List Rule
place_rules w =
    REarly (entry early_literals w).kind  -- 1
    ∷ RTripleBacktick  -- 2
    ∷ RLang  -- 3
    ∷ RSourceFile  -- 4
    ∷ RLine  -- 5
    ∷ RFileLine  -- 6
    ∷ RWhite  -- 7
    ∷ RNewline  -- 8
    ∷ RCharLit  -- 9
    ∷ RCharLitB  -- 10
    ∷ RBacktick  -- 11
    ∷ RKwOp (kw_op_entry w)  -- 12
    ∷ RSemiSemi  -- 13
    ∷ RIdent  -- 14
    ∷ RConstructor  -- 15
    ∷ RInt  -- 16
    ∷ RUInt8  -- 17
    ∷ RNumber "INT8"  -- 18
    ∷ RNumber "UINT16"  -- 19
    ∷ RNumber "INT16"  -- 20
    ∷ RNumber "UINT32"  -- 21
    ∷ RNumber "INT32"  -- 22
    ∷ RNumber "UINT64"  -- 23
    ∷ RNumber "INT64"  -- 24
    ∷ RNumber "SIZET"  -- 25
    ∷ RReal  -- 26
    ∷ RBadNumber  -- 27
    ∷ RCommentStart  -- 28
    ∷ RInFStar  -- 29
    ∷ RLineComment  -- 30
    ∷ RString  -- 31
    ∷ RBacktickIdent  -- 32
    ∷ RPipeLeft  -- 33
    ∷ RPipeRight  -- 34
    ∷ RDotDot  -- 35
    ∷ ROpToken (entry op_tokens w).kind (entry op_tokens w).text  -- 36
    ∷ RLt  -- 37
    ∷ RGt  -- 38
    ∷ ROp "OPINFIX3R"  -- 39
    ∷ ROp "OPINFIX4"  -- 40
    ∷ ROp "OPPREFIX"  -- 41
    ∷ ROp "OPINFIX0a"  -- 42
    ∷ ROp "OPINFIX0b"  -- 43
    ∷ ROp "OPINFIX0c"  -- 44
    ∷ ROp "OPINFIX0d"  -- 45
    ∷ ROp "OPINFIX1"  -- 46
    ∷ ROp "OPINFIX2"  -- 47
    ∷ ROp "OPINFIX3L"  -- 48
    ∷ RUOperator  -- 49
    ∷ RMixfix (entry mixfix_rules w).kind  -- 50
    ∷ []

-- the rule of a choice; that of place 0, which is none of the 50, is `RAny`
unfoldable pub chosen_rule : Choice → Rule
chosen_rule c = get_or (RAny ∷ place_rules c.word) c.place RAny
