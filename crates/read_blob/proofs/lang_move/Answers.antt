-- The arms of the definition, in its order.
use mathlib.Core.Path.{sym, ◌∙◌}
use Rattle.read_blob.proofs.MoveLaws.{lang_end, lang_run, lang_line, lang_open}
use Rattle.read_blob.proofs.lang_move.Goals as goal

pub returns-then-text-i : goal.returns-then-text-i
returns-then-text-i c = lang_end _ _ c.if-text-i.true

pub returns-then-i-j : goal.returns-then-i-j
returns-then-i-j c = lang_run _ _ c.if-text-i.false c.run_end-j.ensures c.if-i-j.true

pub returns-in_default : goal.returns-in_default
returns-in_default c =
    lang_open _ _ c.if-text-i.false c.run_end-j.ensures c.if-i-j.false (sym c.match_newline.ensures ∙ c.in_default.is)

pub returns : goal.returns
returns c =
    lang_line _ _ c.if-text-i.false c.run_end-j.ensures c.if-i-j.false (sym c.match_newline.ensures ∙ c.in-Some.is)
