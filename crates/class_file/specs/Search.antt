-- Which range of a list holds a code point: the answer of a search, of which `in_ranges` is the yes or no.
use Rattle.std.specs.Prelude.{ℕ, suc, ◌≤◌, ◌<◌, true, false, List, [], ◌∷◌, length, drop, ltb, Option, Some, None}
use Rattle.std.specs.declared.cmp.Ordering.{Ordering}
use Rattle.std.specs.declared.cmp.Ordering.TheVariants.{Less, Equal, Greater}
use Rattle.definition.specs.Basics.{Bytes, between}
use Rattle.definition.specs.ClassFile.{Range, little_endian}
use Rattle.class_file.specs.Ends.{first_at, last_at}

-- the range that eight bytes spell
abbrev pub range_at : Bytes → Range
range_at b = (little_endian b, little_endian (drop 4 b))

-- where a range stands to c: after it, before it or around it
abbrev pub side : Range → ℕ → Ordering
side r c = elim (ltb c r.0) [ true ↦ Greater | false ↦ elim (ltb r.1 c) [ true ↦ Less | false ↦ Equal ] ]

-- range i of a list holds c
pub record Holds (rs : List Range) (c i : ℕ) : Type 0 where
  pub there : i < length rs
  pub from : first_at rs i ≤ c
  pub to : c ≤ last_at rs i

-- the index of the first range that holds c, where the ranges are counted from n
unfoldable pub range_from : ℕ → List Range → ℕ → Option ℕ
range_from n [] c = None
range_from n (r ∷ rs) c = elim (between r.0 r.1 c) [ true ↦ Some n | false ↦ range_from (suc n) rs c ]

unfoldable pub range_of : List Range → ℕ → Option ℕ
range_of rs c = range_from 0 rs c
