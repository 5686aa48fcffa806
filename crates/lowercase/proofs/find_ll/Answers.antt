-- `find_ll` meets its contract: the constant's pairs are the definition's table, which antt computes and which ascends.
use mathlib.Core.Path.{◌≡◌, refl, ap, ◌∙◌}
use mathlib.Core.List.{List}
use Prim.Native.Nat.{ℕ}
use lib.ListN.{get_or}
use Rattle.std.specs.Prelude.{map}
use Rattle.definition.specs.ClassFile.{Range}
use Rattle.definition.specs.Lowercase.{ll_tbl}
use Rattle.class_file.specs.Search.{range_of}
use Rattle.lowercase.proofs.LowercaseTable.{ll_ascends}
use Rattle.lowercase.proofs.find_ll.Goals as goal

-- the range of two numbers
abbrev pair : List ℕ → Range
pair l = (get_or l 0 0, get_or l 1 0)

pub search-requires : goal.search-requires
unfolding ll_tbl
search-requires c =
    let table : map pair c.as_chunks.result.0.now ≡ ll_tbl = ap (map pair) c.as_chunks.ensures.front ∙ refl in
    rw table ll_ascends

pub returns : goal.returns
unfolding ll_tbl
returns c =
    let table : map pair c.as_chunks.result.0.now ≡ ll_tbl = ap (map pair) c.as_chunks.ensures.front ∙ refl in
    c.search.ensures ∙ ap (λ rs. range_of rs c.args.c) table
