-- Document 02, K2: the second run "gives the same items, payloads unchanged", and what its positions are beside the first run's.
-- s is the text, name the file's name, f the class file, g the second run's saved state; o₁ is what the first run gives from the nine
-- numbers of g, o₂ what the second gives from g, with the same buffers.
use Rattle.std.specs.Prelude.{ℕ, ◌+◌, ◌*◌, ◌≤◌, ◌<◌, ◌≡◌, true, List, ◌⊎◌, length, take, drop, get_or}
use Rattle.definition.specs.Basics.{Bytes}
use Rattle.definition.specs.Position.{col_by, pos_of}
use Rattle.definition.specs.State.{at_character}
use Rattle.definition.specs.Item.{record_size}
use Rattle.definition.specs.Token.{step}
use Rattle.definition.specs.Run.{Outcome}
use Rattle.definition.specs.Utf16.{utf16, with_column, given_at, column_in, second_after, Utf16Outcome}
use Rattle.definition.specs.declared.Pos.{Pos}
use Rattle.definition.specs.declared.State.{State}
use Rattle.definition.specs.declared.Utf16State.{Utf16State}

-- ---- positions

-- b is one of the two states of a step from g: where its item is given, and the one after it
abbrev pub OfStep : Bytes → Bytes → Bytes → Utf16State → State → Type 0
OfStep s name f g b = (b ≡ given_at s name f g.first) ⊎ (b ≡ (step s name f g.first).next)

-- p is a position of the item that a step from g gives, and q is its second one: both are of the same byte of the same line, where a
-- character begins or the text ends; p by the source's `pos_of`, q one line less and by the same column rule with the weight `utf16`,
-- from the second column of the line's start
pub record SamePlace (s name f : Bytes) (g : Utf16State) (p q : Pos) : Type 0 where
  pub on : State
  pub of_step : OfStep s name f g on
  pub place : ℕ
  pub after : on.bol ≤ place
  pub character : at_character s place ≡ true
  pub first : p ≡ pos_of s on place
  pub line : q.line + 1 ≡ on.line
  pub column : q.col ≡ col_by utf16 s (with_column on (column_in g on)) place

-- the same of where the item begins: in a comment it is the comment's start, of which the state has both columns
pub record SameStart (s name f : Bytes) (g : Utf16State) (p q : Pos) : Type 0 where
  pub outside : (g.first.mode ≡ 1 → ⊥) → SamePlace s name f g p q
  pub inside : g.first.mode ≡ 1 → (p ≡ g.first.comment) × (q.line + 1 ≡ p.line) × (q.col ≡ g.comment)

-- ---- records

-- the position whose line is word j
abbrev pub pos_at : List ℕ → ℕ → Pos
pos_at r j = record { line = get_or r j 0; col = get_or r (j + 1) 0 }

-- word j of a record belongs to a position: "words 2 to 5 and, where word 9 is 2 or 3, 11 to 14"; word 9 is at most 3
abbrev pub InPosition : List ℕ → ℕ → Type 0
InPosition r j = ((2 ≤ j) × (j ≤ 5)) ⊎ ((2 ≤ get_or r 9 0) × (11 ≤ j) × (j ≤ 14))

-- r₁ is the record of the item that a step from g gives in the first run, r₂ in the second
pub record SameRecord (s name f : Bytes) (g : Utf16State) (r₁ r₂ : List ℕ) : Type 0 where
  pub others : (j : ℕ) → (InPosition r₁ j → ⊥) → get_or r₂ j 0 ≡ get_or r₁ j 0
  pub start : SameStart s name f g (pos_at r₁ 2) (pos_at r₂ 2)
  pub end : SamePlace s name f g (pos_at r₁ 4) (pos_at r₂ 4)
  pub extra : 2 ≤ get_or r₁ 9 0 → SamePlace s name f g (pos_at r₁ 11) (pos_at r₂ 11) × SamePlace s name f g (pos_at r₁ 13) (pos_at r₂ 13)

-- ---- runs

abbrev pub record_of : ℕ → List ℕ → List ℕ
record_of k rs = take record_size (drop (record_size * k) rs)

pub record SameItems (s name f : Bytes) (g : Utf16State) (o₁ : Outcome) (o₂ : Utf16Outcome) : Type 0 where
  pub taken : o₁.0.refusal ≡ 0
  pub stop : o₂.0.stop ≡ o₁.0.stop
  pub count : o₂.0.count ≡ o₁.0.count
  pub state : o₂.0.state.first ≡ o₁.0.state
  pub payload : o₂.2 ≡ o₁.2
  -- each record, of a step from the state after those before it
  pub records : (k : ℕ) → k < o₁.0.count
      → SameRecord s name f (second_after utf16 s name f k g) (record_of k o₁.1) (record_of k o₂.1)
  -- and the numbers after them, as many
  pub room : length o₂.1 ≡ length o₁.1
  pub rest : drop (record_size * o₁.0.count) o₂.1 ≡ drop (record_size * o₁.0.count) o₁.1
