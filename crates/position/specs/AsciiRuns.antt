-- Parts of the text that are ASCII, and when one holds all that the columns of a token's ends are counted over.
use Rattle.std.specs.Prelude.{ℕ, ◌≤◌, ◌<◌, length, get_or}
use Rattle.definition.specs.Basics.{Bytes}
use Rattle.position.specs.declared.Cache.{Cache}
use Rattle.position.specs.declared.columns.AsciiRun.{AsciiRun}

-- every byte from i up to j is ASCII
abbrev pub Ascii : Bytes → ℕ → ℕ → Type 0
Ascii s i j = (k : ℕ) → i ≤ k → k < j → get_or s k 0 < 128

-- the same, and j is within the text where i is
pub record AsciiTo (s : Bytes) (i j : ℕ) : Type 0 where
  pub ascii : Ascii s i j
  pub within : i ≤ length s → j ≤ length s

-- every byte of a run of ASCII is ASCII
abbrev pub Plain : Bytes → AsciiRun → Type 0
Plain s p = Ascii s p.from p.to

-- the run of ASCII holds the bytes from the known offset up to `to`, and `from` is between them
pub record Covers (p : AsciiRun) (known : Cache) (from to : ℕ) : Type 0 where
  pub starts : p.from ≤ known.off
  pub after : known.off ≤ from
  pub order : from ≤ to
  pub ends : to ≤ p.to
