-- A number that is no kind's has the name at place 0.
use mathlib.Core.Path.{◌∙◌}
use Rattle.listing_lines.proofs.LineLaws.{name_there, name_missing}
use Rattle.listing_lines.proofs.kind_names.name.Goals as goal

pub returns-then-kind-lt174 : goal.returns-then-kind-lt174
returns-then-kind-lt174 c = c.name_at.ensures ∙ name_there _ c.if-kind-lt174.true

pub returns : goal.returns
returns c = c.name_at-2.ensures ∙ name_missing _ c.if-kind-lt174.false
