-- Each return is an arm of the definition.
use mathlib.Core.Path.{sym, ap, ◌∙◌}
use Rattle.definition.specs.Answers.{refusal_said}
use Rattle.definition.proofs.Refusals.{class_refused}
use Rattle.lemmas.proofs.Results.{handed_up}
use Rattle.refusal.proofs.Ladder.{long_text, long_name, bad_classes, good_classes}
use Rattle.refusal.proofs.refusal.Goals as goal

pub returns-then-text-gt-LONGEST_TEXT : goal.returns-then-text-gt-LONGEST_TEXT
returns-then-text-gt-LONGEST_TEXT c = long_text _ _ _ _ c.if-text-gt-LONGEST_TEXT.true

pub returns-then-name-gt-LONGEST_NAME : goal.returns-then-name-gt-LONGEST_NAME
returns-then-name-gt-LONGEST_NAME c = long_name _ _ _ _ c.if-text-gt-LONGEST_TEXT.false c.if-name-gt-LONGEST_NAME.true

pub returns-in_err-class_check : goal.returns-in_err-class_check
returns-in_err-class_check c =
    ap refusal_said (handed_up _ c.from_residual.ensures.1)
    ∙ bad_classes _ _ _ _ c.if-text-gt-LONGEST_TEXT.false c.if-name-gt-LONGEST_NAME.false c.in_err-class_check.ensures (class_refused _)

pub returns : goal.returns
returns c =
    c.text_refusal.ensures ∙ good_classes _ _ _ _ c.if-text-gt-LONGEST_TEXT.false c.if-name-gt-LONGEST_NAME.false (sym c.in_ok-class_check.ensures)
