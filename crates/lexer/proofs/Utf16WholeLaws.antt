-- The whole second run: refused, or its items. Rests on the laws of what it does (crate `laws_utf16`), and on those of the first run from
-- the same nine numbers.
use Prim.Native.Nat.{ℕ}
use mathlib.Core.Path.{◌≡◌, refl, sym, ap, subst, ◌∙◌}
use mathlib.Core.List.{List}
use mathlib.Core.Logic.{inl, inr}
use borrow.Author.Tests.{ne_eqb}
use Rattle.definition.specs.Basics.{Bytes}
use Rattle.definition.specs.Run.{refusal, run}
use Rattle.definition.specs.Reading.{EveryReading}
use Rattle.definition.specs.Utf16.{utf16_refusal, Utf16Outcome, utf16_answer, utf16_run}
use Rattle.definition.specs.declared.Utf16State.{Utf16State}
use Rattle.laws_run.proofs.Demand3.{every_reading}
use Rattle.laws_coverage.specs.Coverage.{NothingLost}
use Rattle.laws_coverage.proofs.Law.{run_lossless}
use Rattle.laws_utf16.specs.Same.{SameItems}
use Rattle.laws_utf16.specs.Written.{Utf16Done}
use Rattle.laws_utf16.proofs.Refusals.{refusal_taken}
use Rattle.laws_utf16.proofs.Runs.{utf16_done}
use Rattle.laws_utf16.proofs.SameItems.{same_items}
use Rattle.lexer.specs.Utf16Promises.{RefusedOrCounted}

module _ (s name f : Bytes) (g : Utf16State) where
  module _ {n o : ℕ} (e : ◌≡◌ {A = ℕ × ℕ} (n, o) (utf16_refusal s name f g)) (h : n ≡ 0 → ⊥) (rs : List ℕ) (ps : Bytes) where
    -- what is refused alters nothing,
    pub run_refuses : ◌≡◌ {A = Utf16Outcome} (utf16_answer (n, o) 0 0 g, rs, ps) (utf16_run s name f g rs ps)
    unfolding utf16_run
    run_refuses = rw (utf16_run, ← e, ne_eqb n 0 h) (ap (λ (p : ℕ × ℕ). (utf16_answer p 0 0 g, rs, ps)) e)

    -- and says so
    pub refuses_whole : RefusedOrCounted s name f g rs ps (utf16_answer (n, o) 0 0 g, rs, ps)
    refuses_whole = inl (record { number = h; count = refl; stop = refl; state = refl; records = refl; payload = refl })

  module _ {n o : ℕ} (e : ◌≡◌ {A = ℕ × ℕ} (n, o) (utf16_refusal s name f g)) (z : n ≡ 0) where
    -- what isn't refused isn't refused by the definition,
    pub runs_taken : (utf16_refusal s name f g).0 ≡ 0
    runs_taken = ap (λ (p : ℕ × ℕ). p.0) (sym e) ∙ z

    first_taken : (refusal s name f g.first).0 ≡ 0
    first_taken = (refusal_taken s name f g runs_taken).first

    -- nothing of its text is lost between items,
    pub runs_lossless : NothingLost s name f g.first
    runs_lossless = run_lossless s name f g.first first_taken

    -- demand 3 holds of it,
    pub runs_right : EveryReading s name f g.first
    runs_right = every_reading s name f g.first first_taken

    module _ (rs : List ℕ) (ps : Bytes) (x : Utf16Outcome) (q : x ≡ utf16_run s name f g rs ps) where
      -- it has written whole items,
      pub runs_counted : RefusedOrCounted s name f g rs ps x
      runs_counted = inr (subst (Utf16Done s name f g rs ps) (sym q) (utf16_done s name f g rs ps runs_taken))

      -- and they are the first run's
      pub runs_alike : SameItems s name f g (run s name f g.first rs ps) x
      runs_alike = subst (SameItems s name f g (run s name f g.first rs ps)) (sym q) (same_items s name f g rs ps runs_taken)
