-- What the functions that clean a number promise.
use Rattle.std.specs.Prelude.{ℕ, ◌≤◌, ◌≡◌, length, take, drop}
use Rattle.std.proofs.Math.Seq.{slice}
use Rattle.definition.specs.Basics.{Bytes}
use Rattle.definition.specs.Numbers.{strip_left, strip_right, clean_number}
use Rattle.number_value.specs.declared.cleaning.Part.{Part}

-- what `strip_left` leaves of s begins at from
pub record LeftStripped (s : Bytes) (from : ℕ) : Type 0 where
  pub within : from ≤ length s
  pub is : drop from s ≡ strip_left s

-- what `strip_right` leaves of s ends at to
pub record RightStripped (s : Bytes) (to : ℕ) : Type 0 where
  pub within : to ≤ length s
  pub is : take to s ≡ strip_right s

-- the part of s that `clean_number` leaves
pub record Cleaned (s : Bytes) (part : Part) : Type 0 where
  pub ordered : part.from ≤ part.to
  pub within : part.to ≤ length s
  pub is : slice part.from part.to s ≡ clean_number s
