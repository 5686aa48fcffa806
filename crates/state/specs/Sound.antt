-- What a sound state is, clause by clause of document 01, as facts, and where a run that isn't refused stands.
use Rattle.std.specs.Prelude.{◌+◌, ◌≤◌, ◌≡◌, true, length}
use Rattle.definition.specs.Basics.{Bytes}
use Rattle.definition.specs.Text.{first_bad}
use Rattle.definition.specs.State.{at_character}
use Rattle.definition.specs.declared.State.{State}

pub record Sound (s : Bytes) (st : State) : Type 0 where
  pub offset : at_character s st.offset ≡ true
  pub bol : at_character s st.bol ≡ true
  pub order : st.bol ≤ st.offset
  pub line : st.line ≤ 1000000 + st.offset
  pub column : st.column ≤ 1000000
  pub comments : st.comments + st.depth ≤ st.offset
  pub mode : st.mode ≤ 2
  pub opened : st.mode ≡ 1 → 1 ≤ st.depth
  pub level : (st.mode ≡ 1 → ⊥) → st.depth ≡ 0
  pub nowhere : (st.mode ≡ 1 → ⊥) → (st.comment.line ≡ 0) × (st.comment.col ≡ 0)
  pub comment_line : st.comment.line ≤ st.line
  pub comment_col : st.comment.col ≤ 2048576

-- a sound state in a legal text that is not too long
pub record Stands (s : Bytes) (st : State) : Type 0 where
  pub short : length s ≤ 1048576
  pub legal : length s ≤ first_bad s
  pub sound : Sound s st
