-- `early_literal` looks at the table where two bytes of the text begin a word of it.
use mathlib.Core.Path.{sym, ◌∙◌}
use Rattle.table_early.proofs.Searches.{early_past, early_none}
use native.Mathlib.Omega.{arith}
use Rattle.table_early.proofs.early_literal.Goals as goal

pub returns-then-text-i : goal.returns-then-text-i
returns-then-text-i c = c.nothing.ensures ∙ sym (early_past _ _ (omega (arith, c.if-text-i.true)))

pub returns-then-text-i-2 : goal.returns-then-text-i-2
returns-then-text-i-2 c = c.nothing-then-text-i-2.ensures ∙ sym (early_past _ _ c.if-text-i-2.true)

pub returns : goal.returns
returns c = c.nothing-2.ensures ∙ sym (early_none _ _ c.if-text-i.false (sym c.early_begins.ensures ∙ c.if-early_begins.false))
