-- `is_ll` meets its contract: c is in one of the ranges where a range is found; where its block tells, its bit is its test.
use mathlib.Core.Path.{ap, ◌∙◌}
use Rattle.definition.specs.Lowercase.{is_ll}
use Rattle.std.specs.Option.{is_some}
use Rattle.class_file.proofs.SearchLaws.{found_in_ranges}
use Rattle.lowercase.proofs.BlockLaws.{bit_told}
use Rattle.lowercase.proofs.is_ll.Goals as goal

pub returns-in_default : goal.returns-in_default
unfolding is_ll
returns-in_default c = c.is_some.ensures ∙ ap is_some c.find_ll.ensures ∙ found_in_ranges _ _

pub returns : goal.returns
returns c =
    let p = c.args.c in
    bit_told p c.block_letters.ensures c.in-Some.is
