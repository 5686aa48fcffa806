-- `mixfix_word` is what trying every mixfix word gives: they all begin with a point.
use mathlib.Core.Path.{sym, ◌∙◌}
use Rattle.table_op_tokens.proofs.MixfixSearches.{mixfix_is, mixfix_no}
use Rattle.table_op_tokens.proofs.mixfix.mixfix_word.Goals as goal

pub returns-then-byte_is : goal.returns-then-byte_is
returns-then-byte_is c = c.mixfix.ensures ∙ mixfix_is _ _

pub returns : goal.returns
returns c = c.nothing.ensures ∙ sym (mixfix_no _ _ (sym c.byte_is.ensures ∙ c.if-byte_is.false))
