-- `close_comment` by its two cases. Rests on nothing but the definition.
use Prim.Native.Nat.{◌≤◌, ◌<◌}
use mathlib.Core.Path.{◌≡◌, ◌∙◌}
use borrow.Author.Tests.{lt-ltb, le-ltb}
use Rattle.definition.specs.State.{close_level, close_last, close_comment}
use Rattle.definition.specs.declared.State.{State}

module _ (st : State) {z : State} where
  -- with more than one level open, the comment goes on
  pub closes_level : z ≡ close_level st → 1 < st.depth → z ≡ close_comment st
  unfolding close_comment
  closes_level e h = e ∙ rw (lt-ltb 1 st.depth h, close_comment)

  -- with at most one level open, it is over
  pub closes_last : z ≡ close_last st → st.depth ≤ 1 → z ≡ close_comment st
  unfolding close_comment
  closes_last e h = e ∙ rw (le-ltb 1 st.depth h, close_comment)
