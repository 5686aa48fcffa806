-- The first run's start, whose column is in both places.
use mathlib.Core.Path.{ap, ◌∙◌}
use Rattle.definition.specs.Answers.{StartAnswer, start_said}
use Rattle.definition.specs.Utf16.{utf16_start, utf16_zeros}
use Rattle.definition.specs.declared.State.{State}
use Rattle.definition.specs.declared.Utf16State.{Utf16State}
use Rattle.lemmas.proofs.Results.{handed_up}
use Rattle.state.proofs.utf16_start.Goals as goal

abbrev both : StartAnswer State → StartAnswer Utf16State
both a = record { refusal = a.refusal; state = record { first = a.state; column = a.state.column; comment = 0 } }

pub returns-in_err-first : goal.returns-in_err-first
unfolding utf16_start
returns-in_err-first c =
    ap (start_said utf16_zeros) (handed_up _ c.from_residual.ensures.1) ∙ ap both c.in_err-first.ensures

pub returns : goal.returns
unfolding utf16_start
returns c = ap both c.in_ok-first.ensures
