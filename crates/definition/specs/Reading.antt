-- Demand 3, over a run: which positions are reading positions, and that the choice at each is right and moves on.
-- s is the text, name the file's name, f the class file, g the state that the run is given.
use Rattle.std.specs.Prelude.{ℕ, ◌<◌, ◌≡◌, ◌↔◌, length}
use Rattle.definition.specs.Basics.{Bytes, again, done}
use Rattle.definition.specs.Kinds.{kind}
use Rattle.definition.specs.Select.{select}
use Rattle.definition.specs.Item.{Step}
use Rattle.definition.specs.Comment.{comment}
use Rattle.definition.specs.Token.{TokenTurn, token_turn}
use Rattle.definition.specs.Longest.{Longest}
use Rattle.definition.specs.declared.State.{State}
use Rattle.definition.specs.declared.Extra.{Extra}
use Rattle.definition.specs.declared.Extra.TheVariants.{NoExtra, CharLit, Blob, LexError, Comment}

-- the states that a run comes to, with or without room to write: the given one; in mode 0 the one where a choice "has read
-- all it reads", whether it was skipped or gave an item; in mode 1 the one after the next piece of the comment
pub data Reached (s name f : Bytes) (g : State) : State → Type 0 where
  given : Reached s name f g g
  skipped : {st next : State} → Reached s name f g st → st.mode ≡ 0 → token_turn s name f st ≡ again next → Reached s name f g next
  gave : {st : State} {t : Step} → Reached s name f g st → st.mode ≡ 0 → token_turn s name f st ≡ done t → Reached s name f g t.next
  carried : {st : State} → Reached s name f g st → st.mode ≡ 1 → Reached s name f g (comment s st.offset st).next

-- an item's error number; 0 for one that is no ERROR
abbrev pub error_number : Extra → ℕ
error_number NoExtra = 0
error_number (CharLit c) = 0
error_number (Blob n p q) = 0
error_number (LexError n p q) = n
error_number (Comment b) = 0

-- a call of `next_token` gives an ERROR of the number n, which is not 0 (that of an item that is no ERROR)
abbrev pub GivesError : ℕ → TokenTurn → Type 0
GivesError n (again next) = ⊥
GivesError n (done t) = error_number t.item.extra ≡ n

-- what holds at a reading position st
pub record RightChoice (s name f : Bytes) (st : State) : Type 0 where
  pub longest : Longest s f st.offset (select s f st.offset)
  -- error 6, "unexpected char", is given exactly where the choice is none of the places
  pub unexpected : GivesError 6 (token_turn s name f st) ↔ (select s f st.offset).place ≡ 0
  -- what is skipped has a byte or more, and so has what gives an item that is no ERROR
  pub skips : (next : State) → token_turn s name f st ≡ again next → st.offset < next.offset
  pub gives : (t : Step) → token_turn s name f st ≡ done t → (t.item.kind ≡ kind "ERROR" → ⊥) → st.offset < t.next.offset

-- a reading position is where a run stands in mode 0 before the text's end: "the first byte not yet read"
abbrev pub EveryReading : Bytes → Bytes → Bytes → State → Type 0
EveryReading s name f g = (st : State) → Reached s name f g st → st.mode ≡ 0 → st.offset < length s → RightChoice s name f st
