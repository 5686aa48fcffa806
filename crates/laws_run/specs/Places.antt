-- Where the positions of an item stand, and on which lines: what document 02's second run counts again. s is the text.
use Rattle.std.specs.Prelude.{ℕ, ◌≤◌, ◌≡◌, Bool, true, ◌⊎◌}
use Rattle.definition.specs.Basics.{Bytes}
use Rattle.definition.specs.Position.{pos_of}
use Rattle.definition.specs.State.{at_character}
use Rattle.definition.specs.declared.Pos.{Pos}
use Rattle.definition.specs.declared.State.{State}
use Rattle.definition.specs.declared.Item.{Item}
use Rattle.definition.specs.declared.Extra.{Extra}
use Rattle.definition.specs.declared.Extra.TheVariants.{NoExtra, CharLit, Blob, LexError, Comment}

-- p is the position of a place on the line that the state a is on: of a byte from the line's start on, where a character begins or the text
-- ends
pub record On (s : Bytes) (a : State) (p : Pos) : Type 0 where
  pub place : ℕ
  pub is : p ≡ pos_of s a place
  pub after : a.bol ≤ place
  pub character : at_character s place ≡ true

-- on the line of one of two states
abbrev pub OnEither : Bytes → State → State → Pos → Type 0
OnEither s a b p = On s a p ⊎ On s b p

-- the positions that an item has besides its range
abbrev pub ExtraOn : Bytes → State → State → Extra → Type 0
ExtraOn s a b NoExtra = Unit {0}
ExtraOn s a b (CharLit c) = Unit {0}
ExtraOn s a b (Blob n pos snap) = OnEither s a b pos × OnEither s a b snap
ExtraOn s a b (LexError n p1 p2) = OnEither s a b p1 × OnEither s a b p2
ExtraOn s a b (Comment closed) = Unit {0}

-- all positions of an item that is given at the state a, where `next` is the state after it: it ends on next's line
pub record Placed (s : Bytes) (a next : State) (t : Item) : Type 0 where
  pub start : OnEither s a next t.sp
  pub end : On s next t.ep
  pub extra : ExtraOn s a next t.extra

-- the same of a piece of the comment that the state a is in: it has the comment's start, which may stand on an earlier line
pub record PiecePlaced (s : Bytes) (a next : State) (t : Item) : Type 0 where
  pub start : t.sp ≡ a.comment
  pub end : On s next t.ep
  pub closed : Bool
  pub extra : t.extra ≡ Comment closed

-- reading comes from a to b: lines only grow, and on the same line the line's start is the same
pub record Lines (a b : State) : Type 0 where
  pub forward : a.line ≤ b.line
  pub same : b.line ≡ a.line → (b.bol ≡ a.bol) × (b.column ≡ a.column)
