-- The whole run: refused, or its items. Rests on what a run that isn't refused was given, and on the laws of what it does, of what is
-- counted of its text (K4) and of demand 3.
use Prim.Native.Nat.{ℕ}
use mathlib.Core.Path.{◌≡◌, refl, sym, ap, subst, ◌∙◌}
use mathlib.Core.List.{List}
use mathlib.Core.Logic.{inl, inr}
use borrow.Author.Tests.{eq-eqb, ne_eqb}
use Rattle.definition.specs.Basics.{Bytes}
use Rattle.definition.specs.Run.{Outcome, refusal, refused, run_items, run}
use Rattle.definition.specs.Reading.{EveryReading}
use Rattle.definition.specs.declared.State.{State}
use Rattle.laws_run.specs.Accepted.{Accepted}
use Rattle.laws_run.proofs.Refusals.{run_accepted}
use Rattle.laws_run.specs.Written.{Done}
use Rattle.laws_run.proofs.Demand3.{every_reading}
use Rattle.laws_run.proofs.Laws.{run_done}
use Rattle.laws_coverage.specs.Coverage.{NothingLost}
use Rattle.laws_coverage.proofs.Law.{run_lossless}
use Rattle.lexer.specs.Promises.{RefusedOrCounted}

module _ (s name f : Bytes) (st : State) where
  module _ {n o : ℕ} (e : ◌≡◌ {A = ℕ × ℕ} (n, o) (refusal s name f st)) (h : n ≡ 0 → ⊥) (rs : List ℕ) (ps : Bytes) where
    -- what is refused alters nothing,
    pub run_refuses : ◌≡◌ {A = Outcome} (refused (n, o) st, rs, ps) (run s name f st rs ps)
    unfolding run
    run_refuses = rw (run, ← e, ne_eqb n 0 h) (ap (λ (p : ℕ × ℕ). (refused p st, rs, ps)) e)

    -- and says so
    pub refuses_whole : RefusedOrCounted s name f st rs ps (refused (n, o) st, rs, ps)
    refuses_whole = inl (record { number = h; count = refl; stop = refl; state = refl; records = refl; payload = refl })

  module _ {n o : ℕ} (e : ◌≡◌ {A = ℕ × ℕ} (n, o) (refusal s name f st)) (z : n ≡ 0) where
    taken : (refusal s name f st).0 ≡ 0
    taken = ap (λ (p : ℕ × ℕ). p.0) (sym e) ∙ z

    -- what isn't refused was given what a run asks for,
    pub runs_accepted : Accepted s name f st
    runs_accepted = run_accepted s name f st taken

    -- nothing of its text is lost between items,
    pub runs_lossless : NothingLost s name f st
    runs_lossless = run_lossless s name f st taken

    -- demand 3 holds of it,
    pub runs_right : EveryReading s name f st
    runs_right = every_reading s name f st taken

    module _ (rs : List ℕ) (ps : Bytes) (x : Outcome) (q : x ≡ run_items s name f st rs ps) where
      -- it is a run of items,
      pub run_runs : x ≡ run s name f st rs ps
      unfolding run
      run_runs = rw (run, ← e, eq-eqb n 0 z) q

      -- and has written whole ones
      pub runs_counted : RefusedOrCounted s name f st rs ps x
      runs_counted = inr (subst (Done s name f st rs ps) (sym run_runs) (run_done s name f st rs ps taken))
