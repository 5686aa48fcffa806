-- What a run over characters beyond ASCII says.
use Rattle.std.specs.Prelude.{ℕ, ◌≤◌, ◌<◌, ◌≡◌, Bool, true, leb, length}
use Rattle.definition.specs.Basics.{Bytes}
use Rattle.definition.specs.Text.{byte_has, star}

-- the run from j on ends where the run from i on does, and j is its end where a byte beyond ASCII stands there
pub record Beyond (p : ℕ → Bool) (s : Bytes) (i j : ℕ) : Type 0 where
  pub on : star p s j ≡ star p s i
  pub over : byte_has (λ b. leb 0x80 b) s j ≡ true → j ≡ star p s i
  pub from : i ≤ j
  pub within : i < j → j ≤ length s
