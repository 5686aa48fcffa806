-- `later` is the definition's `later`: the greater of two, where `None` stands first.
use mathlib.Core.Path.{sym, ◌∙◌}
use Rattle.match_lit.proofs.ByteLaws.{later_is}
use Rattle.match_lit.proofs.later.Goals as goal

pub returns : goal.returns
returns c = c.max.ensures ∙ sym (later_is _ _)
