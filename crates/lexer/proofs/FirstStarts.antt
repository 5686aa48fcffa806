-- A start at line 1 and column 0 isn't refused, and its state is at the beginning of a text. Rests on nothing but the definition.
use Rattle.std.specs.Prelude.{Result, Ok, Err}
use native.Mathlib.Omega.{arith}
use mathlib.Core.Path.{◌≡◌, ap}
use Rattle.definition.specs.Answers.{StartAnswer, start_said}
use Rattle.definition.specs.State.{started, start, nine_zeros}
use Rattle.definition.specs.Utf16.{utf16_start, utf16_zeros}
use Rattle.definition.specs.declared.State.{State}
use Rattle.definition.specs.declared.Utf16State.{Utf16State}
use Rattle.definition.specs.declared.answers.StartRefusal.{StartRefusal}
use Rattle.definition.specs.declared.answers.StartRefusal.TheVariants.{Line, Column}

pub first_start : (r : Result State StartRefusal) → start_said nine_zeros r ≡ start 1 0 → r ≡ Ok (started 1 0)
unfolding start
first_start (Ok st) e = ap Ok (ap (λ (a : StartAnswer State). a.state) e)
first_start (Err Line) e = absurd (omega (arith, ap (λ (a : StartAnswer State). a.refusal) e))
first_start (Err Column) e = absurd (omega (arith, ap (λ (a : StartAnswer State). a.refusal) e))

-- the same of the second run
pub first_utf16_start : (r : Result Utf16State StartRefusal) → start_said utf16_zeros r ≡ utf16_start 1 0
    → r ≡ Ok (record { first = started 1 0; column = 0; comment = 0 })
unfolding start utf16_start
first_utf16_start (Ok g) e = ap Ok (ap (λ (a : StartAnswer Utf16State). a.state) e)
first_utf16_start (Err Line) e = absurd (omega (arith, ap (λ (a : StartAnswer Utf16State). a.refusal) e))
first_utf16_start (Err Column) e = absurd (omega (arith, ap (λ (a : StartAnswer Utf16State). a.refusal) e))
