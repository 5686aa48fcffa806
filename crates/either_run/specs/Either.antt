-- A run of either kind, from a saved state that says which.
-- s is the text, name the file's name, f the class file; rs and ps are the buffers as they were lent.
use Rattle.std.specs.Prelude.{ℕ, List, length}
use Rattle.definition.specs.Answers.{StartAnswer, RunAnswer}
use Rattle.definition.specs.Basics.{Bytes}
use Rattle.definition.specs.Item.{Step}
use Rattle.definition.specs.Items.{steps_of}
use Rattle.definition.specs.Run.{Outcome, refusal, run}
use Rattle.definition.specs.Utf16.{utf16, second_steps, utf16_refusal, Utf16Outcome, utf16_run}
use Rattle.definition.specs.declared.State.{State}
use Rattle.definition.specs.declared.Utf16State.{Utf16State}
use Rattle.either_run.specs.declared.Answer.{Answer}
use Rattle.either_run.specs.declared.Started.{Started}
use Rattle.either_run.specs.declared.Saved.{Saved}
use Rattle.either_run.specs.declared.Saved.TheVariants.{Characters, Utf16}

-- document 01's nine numbers of a saved state
abbrev pub first_of : Saved → State
first_of (Characters st) = st
first_of (Utf16 g) = g.first

-- what a start's numbers are
abbrev pub start_numbers : Started → StartAnswer Saved
start_numbers r = record { refusal = r.refusal; state = r.state }

abbrev pub first_start : StartAnswer State → StartAnswer Saved
first_start a = record { refusal = a.refusal; state = Characters a.state }

abbrev pub second_start : StartAnswer Utf16State → StartAnswer Saved
second_start a = record { refusal = a.refusal; state = Utf16 a.state }

-- what an answer's numbers are
abbrev pub numbers : Answer → RunAnswer Saved
numbers r = record { refusal = r.refusal; offset = r.offset; stop = r.stop; count = r.count; state = r.state }

-- the answer, and both buffers
abbrev pub EitherOutcome : Type 0
EitherOutcome = RunAnswer Saved × List ℕ × Bytes

abbrev pub of_first : Outcome → EitherOutcome
of_first o =
    let r = o.0 in
    (record { refusal = r.refusal; offset = r.offset; stop = r.stop; count = r.count; state = Characters r.state }, o.1, o.2)

abbrev pub of_second : Utf16Outcome → EitherOutcome
of_second o =
    let r = o.0 in
    (record { refusal = r.refusal; offset = r.offset; stop = r.stop; count = r.count; state = Utf16 r.state }, o.1, o.2)

-- the run
unfoldable pub either_run : Bytes → Bytes → Bytes → Saved → List ℕ → Bytes → EitherOutcome
either_run s name f (Characters st) rs ps = of_first (run s name f st rs ps)
either_run s name f (Utf16 g) rs ps = of_second (utf16_run s name f g rs ps)

-- the number that it is refused with, or 0
unfoldable pub either_refusal : Bytes → Bytes → Bytes → Saved → ℕ
either_refusal s name f (Characters st) = (refusal s name f st).0
either_refusal s name f (Utf16 g) = (utf16_refusal s name f g).0

-- the items from a state on; in the second run there are as many as in the first
unfoldable pub either_items : Bytes → Bytes → Bytes → Saved → List Step
either_items s name f (Characters st) = steps_of s name f st
either_items s name f (Utf16 g) = second_steps utf16 s name f (length (steps_of s name f g.first)) g
