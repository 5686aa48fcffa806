-- What a writer leaves of a buffer that it was lent.
use Rattle.std.specs.Prelude.{ℕ, ◌≡◌, List, ◌++◌, length, drop}

-- l with its first elements replaced by vs
unfoldable pub over : List ℕ → List ℕ → List ℕ
over vs l = vs ++ drop (length vs) l

-- vs were written to the front of a buffer, count in number, and nothing else was changed
pub record Wrote (vs before after : List ℕ) (count : ℕ) : Type 0 where
  pub all : count ≡ length vs
  pub bytes : after ≡ over vs before
