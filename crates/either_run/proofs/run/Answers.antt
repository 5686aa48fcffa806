-- In each arm the answer is that of the definition's run of the kind, put in the common form.
use mathlib.Core.Path.{ap}
use Rattle.lemmas.proofs.Results.{handed_up}
use Rattle.either_run.specs.Either.{of_first, of_second, either_run}
use Rattle.either_run.proofs.run.Goals as goal

pub returns-in_err-ran-in-Characters : goal.returns-in_err-ran-in-Characters
unfolding either_run
returns-in_err-ran-in-Characters c =
    rw (handed_up _ c.from_residual.ensures.1, c.in-Characters.is) (ap of_first c.in_err-ran-in-Characters.ensures.outcome)

pub returns-in_ok-ran-in-Characters : goal.returns-in_ok-ran-in-Characters
unfolding either_run
returns-in_ok-ran-in-Characters c =
    rw c.in-Characters.is (ap of_first c.in_ok-ran-in-Characters.ensures.outcome)

pub returns-in_err-ran-in-Utf16 : goal.returns-in_err-ran-in-Utf16
unfolding either_run
returns-in_err-ran-in-Utf16 c =
    rw (handed_up _ c.from_residual-in_err-ran-in-Utf16.ensures.1, c.in-Utf16.is) (ap of_second c.in_err-ran-in-Utf16.ensures.outcome)

pub returns-in_ok-ran-in-Utf16 : goal.returns-in_ok-ran-in-Utf16
unfolding either_run
returns-in_ok-ran-in-Utf16 c =
    rw c.in-Utf16.is (ap of_second c.in_ok-ran-in-Utf16.ensures.outcome)
