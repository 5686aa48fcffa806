-- The forms that an item has which is read from a state st, and what every item is to keep: the reading moves on within the text or ends,
-- a sound state stays sound, the payload is bounded, and the record says how long it is. That every form keeps it is shown in FormLaws.
use Prim.Native.Nat.{ℕ, ◌+◌, ◌-◌, ◌*◌, ◌≤◌, ◌<◌}
use mathlib.Core.Path.{◌≡◌}
use mathlib.Core.Bool.{Bool, true}
use mathlib.Core.Logic.{◌⊎◌}
use lib.ListN.{length}
use Rattle.definition.specs.Basics.{Bytes}
use Rattle.definition.specs.Position.{pos_of, cur_pos}
use Rattle.definition.specs.State.{advance, one_more_comment, open_comment, close_comment}
use Rattle.definition.specs.Item.{Step, tok, blob_tok, lex_error, add_comment}
use Rattle.definition.specs.declared.State.{State}
use Rattle.definition.specs.declared.Extra.{Extra}
use Rattle.definition.specs.declared.Extra.TheVariants.{NoExtra, CharLit, Blob, LexError, Comment}
use Rattle.state.specs.Sound.{Stands}
use Rattle.laws_progress.proofs.Walks.{Onward, Clean}
use Rattle.laws_run.specs.Left.{level, left, Opened}
use Rattle.laws_run.specs.Budget.{most, budget, longest_payload}
use Rattle.laws_run.proofs.Paths.{Ahead, Path}
use Rattle.laws_run.proofs.Buffers.{Measured}

-- ---- the forms

-- a token's payload is short: four bytes for each byte read, and a hundred; or it is the file's name with a line's number, for twelve
-- bytes or more. A line's number is short because a sound state's is below ten millions
abbrev pub Small : Bytes → State → State → Bytes → Type 0
Small name st a text =
    st.line < 10000000
    → (length text ≤ 4 * (a.offset - st.offset) + 100) ⊎ ((length text ≤ length name + 9) × (st.offset + 12 ≤ a.offset))

-- what a token may have besides
pub data Plain : Extra → Type 0 where
  nothing : Plain NoExtra
  code_point : (c : ℕ) → Plain (CharLit c)

-- a piece of a comment that began at byte `from` and is read on from st: its start is the comment's, and its end is where reading stands
pub record Piece (s : Bytes) (from : ℕ) (st : State) (t : Step) : Type 0 where
  pub began : from ≤ st.offset
  pub last : State
  pub path : Path s st last
  pub text : Bytes
  pub closed : Bool
  pub is : t ≡ add_comment text from last.comment (cur_pos s last) closed (close_comment last)
  pub small : length text ≤ (last.offset - from) + 2

-- what is read from st on. Each position is that of a place ahead, on st's line or on the line of a state a that one reads on to: there a
-- token ends, or a blob's contents do, or reading stops with an error. U is what an error of number 6 says
pub data Form (s name : Bytes) (U : Type 0) (st : State) : Step → Type 0 where
  token : {a : State} {x : Extra} {i : ℕ} (k : ℕ) (text : Bytes) → Plain x → Ahead s st.offset i → Path s st a → st.offset < a.offset
      → Small name st a text → Form s name U st (tok k text st.offset (pos_of s st i) (cur_pos s a) x a)
  blob : {a : State} {i e : ℕ} (k : ℕ) (title contents : Bytes) → Ahead s st.offset i → Path s st a → Ahead s a.offset e → st.offset < e
      → length title + length contents ≤ e - st.offset
      → Form s name U st
      (blob_tok k title contents st.offset (cur_pos s a) (cur_pos s (advance a e)) (pos_of s st i) (cur_pos s st) (advance a e))
  line : {i j : ℕ} (text : Bytes) → Ahead s st.offset i → Onward s st.offset j → length text ≤ j - st.offset
      → Form s name U st (add_comment text st.offset (pos_of s st i) (pos_of s st j) true (one_more_comment (advance st j)))
  opened : {e : ℕ} {t : Step} → Onward s st.offset e → Piece s st.offset (open_comment (advance st e) (cur_pos s st)) t → Form s name U st t
  error : {a : State} {i : ℕ} (n : ℕ) (text : Bytes) → Path s st a → Ahead s a.offset i → length text ≤ length s - a.offset → (n ≡ 6 → U)
      → Form s name U st (lex_error s a n text (cur_pos s a) (pos_of s a i))

-- an ERROR, by what it holds besides
abbrev pub IsError : Extra → Type 0
IsError NoExtra = ⊥
IsError (CharLit c) = ⊥
IsError (Blob n p q) = ⊥
IsError (LexError n p1 p2) = Unit {0}
IsError (Comment b) = ⊥

-- ---- what is kept

-- t is read from st on, and less is left to read
pub record Gives (s : Bytes) (st : State) (t : Step) : Type 0 where
  pub clean : Clean s st.offset → Clean s t.next.offset
  pub within : st.offset ≤ length s → t.next.offset ≤ length s
  pub less : left s t.next ≤ level s st
  pub opened : Opened st → Opened t.next

-- all that is kept. The two bounds of a payload follow from one, that of its form (`Small`): with a name of any length that is accepted
-- a payload and what can still be written after it stay within the budget, and with a short name a buffer of four bytes for each byte of
-- the text, and a hundred, is enough for any payload
pub record Kept (s name : Bytes) (st : State) (t : Step) : Type 0 where
  pub gives : Gives s st t
  pub sound : Stands s st → Stands s t.next
  pub bounded : Stands s st → length name ≤ 4096 → length t.payload + budget s t.next ≤ most s st
  pub short : Stands s st → length name ≤ 50 → length t.payload ≤ longest_payload s
  pub measured : Measured t
