-- What writing a character asks for.
use Rattle.std.specs.Prelude.{ℕ, ◌≤◌, length}
use Rattle.definition.specs.Basics.{Bytes}
use Rattle.definition.specs.Utf8.{encode}

-- a number that has bytes in UTF-8, and a buffer that they fit
pub record Encodes (c : ℕ) (out : Bytes) : Type 0 where
  pub small : c ≤ 0x10FFFF
  pub room : length (encode c) ≤ length out
