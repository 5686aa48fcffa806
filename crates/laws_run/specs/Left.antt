-- What is left to read: it falls with each item, so that every run ends.
use Rattle.std.specs.Prelude.{ℕ, ◌+◌, ◌≤◌, ◌≡◌, true, false, eqb}
use Rattle.definition.specs.Basics.{Bytes}
use Rattle.definition.specs.declared.State.{State}
use Rattle.laws_progress.specs.Walks.{rest}

-- the bytes and the levels of a comment that are left
abbrev pub level : Bytes → State → ℕ
level s st = rest s st.offset + st.depth

-- 1 until the reading has ended
abbrev pub awake : ℕ → ℕ
awake m = elim (eqb m 2) [ true ↦ 0 | false ↦ 1 ]

-- what falls with each item
abbrev pub left : Bytes → State → ℕ
left s st = level s st + awake st.mode

-- in a comment, a level is open
abbrev pub Opened : State → Type 0
Opened st = st.mode ≡ 1 → 1 ≤ st.depth
