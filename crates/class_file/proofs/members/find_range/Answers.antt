-- `find_range` meets its contract: the ranges of an accepted file ascend, and so they are searched.
use mathlib.Core.Path.{ap, ◌∙◌}
use Rattle.class_file.specs.Search.{range_of}
use Rattle.class_file.proofs.Accepted.{accepted}
use Rattle.class_file.proofs.members.find_range.Goals as goal

pub class_ranges-requires : goal.class_ranges-requires
class_ranges-requires c = ((accepted _ c.requires.0).laid_right, c.requires.1)

pub search-requires : goal.search-requires
search-requires c = rw c.class_ranges.ensures ((accepted _ c.requires.0).ascends _ c.requires.1)

pub returns : goal.returns
returns c = c.search.ensures ∙ ap (λ rs. range_of rs c.args.c) c.class_ranges.ensures
