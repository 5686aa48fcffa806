use mathlib.Core.Path.{sym, ◌∙◌}
use Rattle.match_lit.proofs.ByteLaws.{cut_end, cut_here, cut_on}
use native.Mathlib.Omega.{arith}
use Rattle.match_lit.proofs.no_comment.Goals as goal

pub returns-then-byte_pair : goal.returns-then-byte_pair
returns-then-byte_pair c = sym (cut_here _ _ _ c.requires.1 (omega arith) (sym c.byte_pair.ensures ∙ c.if-byte_pair.true)) ∙ c.loop-j.invariant

pub loop-j-preserved : goal.loop-j-preserved
loop-j-preserved c = sym (cut_on _ _ _ c.requires.1 (omega arith) (sym c.byte_pair.ensures ∙ c.if-byte_pair.false)) ∙ c.loop-j.invariant

pub returns : goal.returns
returns c = sym (cut_end _ _ _ c.requires.1 (omega arith)) ∙ c.loop-j.invariant
