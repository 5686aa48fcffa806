-- Moving on through a text by whole characters, and what is left of it.
use Rattle.std.specs.Prelude.{ℕ, ◌+◌, ◌-◌, ◌≤◌, ◌<◌, ◌≡◌, length}
use Rattle.definition.specs.Basics.{Bytes}
use Rattle.definition.specs.Utf8.{sequence_at}
use Rattle.definition.specs.declared.Sequence.TheVariants.{Char}

-- from i one comes to e by whole characters
pub data Walk (s : Bytes) : ℕ → ℕ → Type 0 where
  here : {i e : ℕ} → i ≡ e → Walk s i e
  on : {i e : ℕ} (c w : ℕ) → sequence_at s i ≡ Char c w → Walk s (i + w) e → Walk s i e

-- a walk of a character or more
pub record Onward (s : Bytes) (i e : ℕ) : Type 0 where
  pub past : i < e
  pub within : e ≤ length s
  pub walk : Walk s i e

-- how much of the text is left after an offset
abbrev pub rest : Bytes → ℕ → ℕ
rest s i = length s - i
