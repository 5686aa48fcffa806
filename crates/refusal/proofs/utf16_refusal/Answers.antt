-- Each return is an arm of the definition.
use Prim.Native.Nat.{ℕ}
use mathlib.Core.Bool.{Bool}
use mathlib.Core.Path.{◌≡◌, sym, ap, ◌∙◌}
use Rattle.definition.specs.Answers.{refusal_said}
use Rattle.definition.specs.Basics.{Bytes}
use Rattle.definition.specs.State.{sound}
use Rattle.definition.specs.Run.{refusal}
use Rattle.definition.specs.Utf16.{by_second}
use Rattle.definition.specs.declared.State.{State}
use Rattle.definition.specs.declared.Utf16State.{Utf16State}
use Rattle.definition.proofs.Refusals.{run_refused}
use Rattle.lemmas.proofs.Results.{handed_up}
use Rattle.refusal.proofs.Utf16Ladder.{first_refused, Tested, second_unsound, line_is_zero, nothing_refused}
use Rattle.refusal.proofs.utf16_refusal.Goals as goal

pub returns-in_err-refusal : goal.returns-in_err-refusal
returns-in_err-refusal c =
    ap refusal_said (handed_up _ c.from_residual.ensures.1) ∙ first_refused _ _ _ _ c.in_err-refusal.ensures (run_refused _)

-- past the first run's refusals, with the second columns tested
tested : (s name f : Bytes) (g : Utf16State) (second : State) (right : Bool)
    → ◌≡◌ {A = ℕ × ℕ} (0, 0) (refusal s name f g.first) → second ≡ by_second g → right ≡ sound s second
    → Tested s name f g right
tested s name f g second right e b t = record { first = sym (ap (λ (it : ℕ × ℕ). it.0) e); second = t ∙ ap (sound s) b }

pub returns-then-not-sound : goal.returns-then-not-sound
returns-then-not-sound c = second_unsound _ _ _ _ (tested _ _ _ _ _ _ c.in_ok-refusal.ensures c.by_second.ensures c.sound.ensures) c.if-not-sound.true

pub returns-then-line_zero : goal.returns-then-line_zero
returns-then-line_zero c =
    line_is_zero _ _ _ _ (tested _ _ _ _ _ _ c.in_ok-refusal.ensures c.by_second.ensures c.sound.ensures) c.if-not-sound.false (sym c.if-line_zero.true ∙ c.line_zero.ensures)

pub returns : goal.returns
returns c =
    nothing_refused _ _ _ _ (tested _ _ _ _ _ _ c.in_ok-refusal.ensures c.by_second.ensures c.sound.ensures) c.if-not-sound.false (sym c.if-line_zero.false ∙ c.line_zero.ensures)
