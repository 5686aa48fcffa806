-- Document 01's example: the checker computes the definition's items of its text, and the line of each. Rests on nothing but the
-- definitions.
use mathlib.Core.Path.{◌≡◌, refl}
use mathlib.Core.List.{List, [], ◌∷◌, map}
use lib.ListN.{take}
use Rattle.definition.specs.Basics.{Bytes, loop}
use Rattle.definition.specs.Utf8.{encode, encode_all}
use Rattle.definition.specs.Tables.{cps}
use Rattle.definition.specs.Kinds.{kind_names}
use Rattle.definition.specs.Numbers.{show}
use Rattle.definition.specs.Item.{record_size}
use Rattle.definition.specs.Listed.{listed}
use Rattle.definition.specs.Cases.{no_ranges}
use Rattle.listing_lines.specs.Line.{names, name_of, numbers, line}

-- the text
abbrev text : Bytes
text = cps "let x = >1\n(* a (* b *) c *)\n"

-- the lines of its items
abbrev expected : List Bytes
expected =
    cps "T LET 1 0 1 3 0 0 0\n"
    ∷ cps "T IDENT 1 4 1 5 0 0 1\n"
    ∷ cps "T EQUALS 1 6 1 7 0 0 0\n"
    ∷ cps "T OPINFIX0c 1 9 1 9 0 0 1\n"
    ∷ cps "T INT 1 9 1 10 0 0 1\n"
    ∷ cps "C - 2 0 2 12 1 1 12\n"
    ∷ cps "C - 2 0 2 17 2 1 5\n"
    ∷ cps "T EOF 3 0 3 0 2 0 0\n"
    ∷ []

pub example_lines : map (λ ws. line (take record_size ws)) (listed text no_ranges) ≡ expected
unfolding listed line numbers name_of names kind_names show loop cps encode_all encode
example_lines = refl
