-- What reading digits asks for.
use Rattle.std.specs.Prelude.{ℕ, ◌≤◌}

-- a base whose digits can be read: a value never falls, and one that is 255 at most stays small with a digit more
pub record Base (base : ℕ) : Type 0 where
  pub some : 1 ≤ base
  pub small : base ≤ 16
