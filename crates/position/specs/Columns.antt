-- What the column functions rest on: what a byte counts, when a cached column is right, and the weights of characters.
use Rattle.std.specs.Prelude.{ℕ, ◌+◌, ◌≤◌, ◌≡◌, true, false, List, [], ◌∷◌, length}
use Rattle.definition.specs.Basics.{Bytes}
use Rattle.definition.specs.Position.{Weight, one_each, is_continuation, col_by, pos_of}
use Rattle.definition.specs.declared.State.{State}
use Rattle.position.specs.declared.Cache.{Cache}
use Rattle.position.specs.declared.Located.{Located}

-- a byte that starts a character counts 1, one that continues a character 0
unfoldable pub unit : ℕ → ℕ
unit b = elim (is_continuation b) [ true ↦ 0 | false ↦ 1 ]

-- the cache holds an offset of the state's line, and its column by a weight
pub record Known (w : Weight) (s : Bytes) (st : State) (known : Cache) : Type 0 where
  pub after : st.bol ≤ known.off
  pub column : known.col ≡ col_by w s st known.off

-- what may be asked: the column of an offset of the state's line, in a text that is not too long
pub record Asked (w : Weight) (s : Bytes) (st : State) (known : Cache) (i : ℕ) : Type 0 where
  pub short : length s ≤ 1048576
  pub margin : st.column ≤ 1000000
  pub cached : Known w s st known
  pub from : st.bol ≤ i
  pub to : i ≤ length s

-- an offset and its column by a weight
abbrev pub column_at : Weight → Bytes → State → ℕ → Cache
column_at w s st i = record { off = i; col = col_by w s st i }

abbrev pub located : Bytes → State → ℕ → Located
located s st i = record { pos = pos_of s st i; known = column_at one_each s st i }

-- the weights of some characters together
unfoldable pub sum_of : Weight → List ℕ → ℕ
sum_of w [] = 0
sum_of w (c ∷ cs) = w c + sum_of w cs
