-- A refusal alters nothing; what isn't refused is a run of items, all whole and the first run's, between which nothing is lost, and at
-- every reading position of which demand 3 holds.
use mathlib.Core.Path.{refl}
use Rattle.definition.proofs.Refusals.{run_refused}
use Rattle.lemmas.proofs.Results.{handed_up}
use Rattle.lexer.proofs.Utf16WholeLaws.{run_refuses, refuses_whole, runs_taken, runs_counted, runs_alike, runs_lossless, runs_right}
use Rattle.lexer.proofs.utf16.run.Goals as goal

pub returns-in_err-utf16_refusal : goal.returns-in_err-utf16_refusal
returns-in_err-utf16_refusal c =
    let r = c.in_err-utf16_refusal.ensures in
    let n = run_refused c.in_err-utf16_refusal.field-0.0 in
    rw (handed_up _ c.from_residual.ensures.1)
    (record { refused_or_counted = refuses_whole _ _ _ _ r n _ _; outcome = run_refuses _ _ _ _ r n _ _; same_items = (λ h. absurd (n h)); nothing_lost = (λ h. absurd (n h)); every_reading = (λ h. absurd (n h)) })

pub run_items-requires : goal.run_items-requires
run_items-requires c = runs_taken _ _ _ _ c.in_ok-utf16_refusal.ensures refl

pub returns : goal.returns
returns c =
    let r = c.in_ok-utf16_refusal.ensures in
    let q = c.run_items.ensures in
    record { refused_or_counted = runs_counted _ _ _ _ r refl _ _ _ q; outcome = q; same_items = (λ _. runs_alike _ _ _ _ r refl _ _ _ q); nothing_lost = (λ _. runs_lossless _ _ _ _ r refl); every_reading = (λ _. runs_right _ _ _ _ r refl) }
