-- `in_class` meets its contract: c is in one of the ranges where a range is found.
use mathlib.Core.Path.{ap, ◌∙◌}
use Rattle.std.specs.Option.{is_some}
use Rattle.class_file.proofs.SearchLaws.{found_in_ranges}
use Rattle.class_file.proofs.members.in_class.Goals as goal

pub returns : goal.returns
returns c = c.is_some.ensures ∙ ap is_some c.find_range.ensures ∙ found_in_ranges _ _
