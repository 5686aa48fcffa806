-- Descriptions of parts of the text. Rests on the length of a part.
use Prim.Native.Nat.{ℕ, ◌≤◌}
use mathlib.Core.Path.{refl, sym}
use lib.ListN.{length}
use lib.Seq.{length-slice}
use Rattle.definition.specs.Basics.{Bytes}
use Rattle.definition.specs.Text.{lexeme}
use Rattle.reader.specs.declared.Payload.TheVariants.{Part}
use Rattle.reader.specs.Described.{Describes}

-- a part is described by its offsets
pub part_describes : (s name f : Bytes) (from to : ℕ) → to ≤ length s → Describes s name f (Part from to) (lexeme s from to)
part_describes s name f from to h = record { is = refl; long = sym (length-slice from to s h); inside = h }
