-- What the functions of escapes ask for, and what a byte after a backslash denotes.
use Rattle.std.specs.Prelude.{ℕ, ◌+◌, ◌≤◌, ◌<◌, ◌≡◌, true, eqb, length, if◌then◌else◌}
use Rattle.definition.specs.Basics.{Bytes, ch}
use Rattle.definition.specs.Escapes.{code_at, hex_value, is_high_half, is_low_half}

-- digits to read from k on: so few that their value is small
pub record Digits (s : Bytes) (k n : ℕ) : Type 0 where
  pub within : k ≤ length s
  pub few : n ≤ 4

-- a byte stands after the one at i
abbrev pub ByteFollows : Bytes → ℕ → Type 0
ByteFollows s i = i + 1 < length s

-- what the byte c at i + 1 denotes after a backslash
unfoldable pub escaped : Bytes → ℕ → ℕ → ℕ
escaped s i c =
    if eqb c (ch "0") then 0 else
    if eqb c (ch "b") then 8 else
    if eqb c (ch "t") then 9 else
    if eqb c (ch "n") then 10 else
    if eqb c (ch "v") then 11 else
    if eqb c (ch "f") then 12 else
    if eqb c (ch "r") then 13 else
    if eqb c (ch "u") then hex_value s (i + 2) 4 else
    if eqb c (ch "x") then hex_value s (i + 2) 2 else
    code_at s (i + 1)

-- the halves of a pair
pub record Halves (h l : ℕ) : Type 0 where
  pub high : is_high_half h ≡ true
  pub low : is_low_half l ≡ true
