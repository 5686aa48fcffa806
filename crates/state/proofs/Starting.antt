-- `start` by its three cases. Rests on nothing but the definition.
use Prim.Native.Nat.{ℕ, ◌≤◌, ◌<◌}
use mathlib.Core.Path.{◌≡◌, ap, ◌∙◌}
use borrow.Author.Tests.{lt-ltb, le-ltb}
use Rattle.definition.specs.Answers.{StartAnswer}
use Rattle.definition.specs.State.{started, start, nine_zeros}
use Rattle.definition.specs.declared.State.{State}

abbrev answer : ℕ → State → StartAnswer State
answer n z = record { refusal = n; state = z }

module _ (line column : ℕ) where
  -- a line above 1,000,000 is refusal 1
  pub line_refused : 1000000 < line → answer 1 nine_zeros ≡ start line column
  unfolding start
  line_refused h = rw (lt-ltb 1000000 line h, start)

  -- a column above 1,000,000 is refusal 2
  pub column_refused : line ≤ 1000000 → 1000000 < column → answer 2 nine_zeros ≡ start line column
  unfolding start
  column_refused h k = rw (le-ltb 1000000 line h, lt-ltb 1000000 column k, start)

  -- otherwise both are taken, in the state z
  pub both_taken : {z : State} → z ≡ started line column → line ≤ 1000000 → column ≤ 1000000 → answer 0 z ≡ start line column
  unfolding start
  both_taken e h k = ap (answer 0) e ∙ rw (le-ltb 1000000 line h, le-ltb 1000000 column k, start)
