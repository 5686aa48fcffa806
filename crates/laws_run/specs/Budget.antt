-- The payload bytes that a run can still write: 400 for each byte of the text that is left, and 2 for each level of a comment that is
-- open, until the reading has ended. The longest growth is `__FILELINE__`: for 12 bytes the name, of 4,096 at most, and a line of 7 digits
-- at most in parentheses.
use Rattle.std.specs.Prelude.{ℕ, ◌+◌, ◌-◌, ◌*◌, true, false, eqb, length}
use Rattle.definition.specs.Basics.{Bytes}
use Rattle.definition.specs.declared.State.{State}

-- the most bytes of payload for one of the text
abbrev pub growth : ℕ
growth = 400

-- while the reading goes on
abbrev pub most : Bytes → State → ℕ
most s st = growth * (length s - st.offset) + 2 * st.depth

-- in any state
unfoldable pub budget : Bytes → State → ℕ
budget s st = elim (eqb st.mode 2) [ true ↦ 0 | false ↦ most s st ]

-- where the file's name has at most 50 bytes no payload is longer than this
abbrev pub longest_payload : Bytes → ℕ
longest_payload s = 4 * length s + 100
