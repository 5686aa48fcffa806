-- Items: what one step gives, and the eighteen numbers that a record holds.
use Rattle.std.specs.Prelude.{ℕ, Bool, true, false, List, [], ◌∷◌, ◌++◌, length}
use Rattle.definition.specs.Basics.{Bytes}
use Rattle.definition.specs.Position.{cur_pos}
use Rattle.definition.specs.Kinds.{kind}
use Rattle.definition.specs.State.{ended}
use Rattle.definition.specs.declared.Pos.{Pos}
use Rattle.definition.specs.declared.State.{State}
use Rattle.definition.specs.declared.Item.{Item}
use Rattle.definition.specs.declared.Extra.{Extra}
use Rattle.definition.specs.declared.Extra.TheVariants.{NoExtra, CharLit, Blob, LexError, Comment}

-- what one step gives: an item, its payload's bytes, and the state after it
pub record Step : Type 0 where
  pub item : Item
  pub payload : Bytes
  pub next : State

-- ---- tokens, errors and comments

-- an item whose payload (of a blob: whose name) has n bytes; next is the state after it. Document 02: "16 and 17 are the start and end
-- offset of the bytes the item was read from": they begin at byte `from`, and end where the state after it stands
abbrev pub item_of : ℕ → ℕ → ℕ → Pos → Pos → Extra → State → Item
item_of k n from sp ep extra next = record {
  kind = k;
  sp = sp;
  ep = ep;
  length = n;
  comments = next.comments;
  extra = extra;
  from = from;
  to = next.offset;
}

-- `tok`
abbrev pub tok : ℕ → Bytes → ℕ → Pos → Pos → Extra → State → Step
tok k text from sp ep extra next = record { item = item_of k (length text) from sp ep extra next; payload = text; next = next }

-- a token with a blob: the payload is its name and then its contents
abbrev pub blob_tok : ℕ → Bytes → Bytes → ℕ → Pos → Pos → Pos → Pos → State → Step
blob_tok k name contents from sp ep pos snap next = record {
  item = item_of k (length name) from sp ep (Blob (length contents) pos snap) next;
  payload = name ++ contents;
  next = next;
}

-- `lex_error` and the ERROR token of `lex_all`: "ERROR sits where reading stopped"; st is the state there. Document 02: "EOF and ERROR are
-- empty at their position"
abbrev pub lex_error : Bytes → State → ℕ → Bytes → Pos → Pos → Step
lex_error s st number text p1 p2 =
    tok (kind "ERROR") text st.offset (cur_pos s st) (cur_pos s st) (LexError number p1 p2) (ended st)

-- an error without a text, whose range is where reading stopped
abbrev pub error_here : Bytes → State → ℕ → Step
error_here s st number = lex_error s st number [] (cur_pos s st) (cur_pos s st)

-- `add_comment`: next is the state after the comment, which counts it already; closed says whether its end stood in the text
abbrev pub add_comment : Bytes → ℕ → Pos → Pos → Bool → State → Step
add_comment text from sp ep closed next = tok 0 text from sp ep (Comment closed) next

-- ---- the eighteen numbers

abbrev pub record_size : ℕ
record_size = 18

-- word 0: 1 for a token, 2 for a comment
abbrev pub sort_of : Extra → ℕ
sort_of NoExtra = 1
sort_of (CharLit c) = 1
sort_of (Blob n p q) = 1
sort_of (LexError n p q) = 1
sort_of (Comment b) = 2

-- a mark's number: "for a comment 1 closed, 0 unclosed"
abbrev pub mark : Bool → ℕ
mark true = 1
mark false = 0

-- words 9 to 15
abbrev pub extra_words : Extra → List ℕ
extra_words NoExtra = 0 ∷ 0 ∷ 0 ∷ 0 ∷ 0 ∷ 0 ∷ 0 ∷ []
extra_words (CharLit c) = 1 ∷ c ∷ 0 ∷ 0 ∷ 0 ∷ 0 ∷ 0 ∷ []
extra_words (Blob n pos snap) = 2 ∷ n ∷ pos.line ∷ pos.col ∷ snap.line ∷ snap.col ∷ 0 ∷ []
extra_words (LexError n p1 p2) = 3 ∷ n ∷ p1.line ∷ p1.col ∷ p2.line ∷ p2.col ∷ 0 ∷ []
extra_words (Comment closed) = mark closed ∷ 0 ∷ 0 ∷ 0 ∷ 0 ∷ 0 ∷ 0 ∷ []

-- the numbers of an item whose payload begins at byte `used` of the payload buffer
abbrev pub words : Item → ℕ → List ℕ
words t used =
    sort_of t.extra
    ∷ t.kind
    ∷ t.sp.line
    ∷ t.sp.col
    ∷ t.ep.line
    ∷ t.ep.col
    ∷ used
    ∷ t.length
    ∷ t.comments
    ∷ (extra_words t.extra ++ (t.from ∷ t.to ∷ []))
