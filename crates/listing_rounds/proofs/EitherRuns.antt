-- What a run of either kind has done that isn't refused, as far as a listing needs it. Of the first run it rests on the laws of runs (crate
-- `laws_run`) and on the length of payloads; of the second on that, and on the same items being given (crate `laws_utf16`).
use Prim.Native.Nat.{ℕ, ◌+◌, ◌*◌, ◌≤◌}
use mathlib.Core.Path.{◌≡◌, sym, ap, ap₂, subst, ◌∙◌}
use mathlib.Core.List.{List, [], ◌∷◌, ◌++◌}
use native.Mathlib.Omega.{arith}
use lib.ListN.{length, length-append}
use borrow.Author.Tests.{ne_eqb}
use Rattle.definition.specs.Basics.{Bytes}
use Rattle.definition.specs.Item.{Step, record_size}
use Rattle.definition.specs.Items.{steps_of, Steps, records_of, payloads_of}
use Rattle.definition.specs.Run.{Outcome, refusal, run}
use Rattle.definition.specs.Utf16.{utf16, second_steps, utf16_refusal, Utf16Outcome, utf16_answer, utf16_run}
use Rattle.definition.specs.declared.State.{State}
use Rattle.definition.specs.declared.Utf16State.{Utf16State}
use Rattle.lemmas.specs.Over.{over}
use Rattle.lemmas.proofs.Cases.{by_equal}
use Rattle.state.specs.Sound.{Stands}
use Rattle.laws_run.specs.Left.{left, Opened}
use Rattle.laws_run.specs.Budget.{longest_payload}
use Rattle.laws_run.specs.Written.{Stops}
use Rattle.laws_run.proofs.Steps.{payload_short}
use Rattle.laws_run.proofs.Refusals.{run_accepted}
use Rattle.laws_run.proofs.Items.{step_left, steps_of_end, steps_then}
use Rattle.laws_run.proofs.Laws.{run_refused, run_done, handed_back_taken}
use Rattle.laws_utf16.specs.Same.{SameItems}
use Rattle.laws_utf16.specs.Written.{Utf16Done}
use Rattle.laws_utf16.proofs.Refusals.{refusal_taken}
use Rattle.laws_utf16.proofs.Steps.{second_steps_add}
use Rattle.laws_utf16.proofs.Runs.{utf16_done, utf16_handed_back}
use Rattle.laws_utf16.proofs.SameItems.{same_items}
use Rattle.either_run.specs.Either.{first_of, EitherOutcome, of_first, of_second, either_run, either_refusal, either_items}
use Rattle.either_run.specs.declared.Saved.{Saved}
use Rattle.either_run.specs.declared.Saved.TheVariants.{Characters, Utf16}

-- the buffers have room for any one item
pub record Roomy (s name : Bytes) (rs : List ℕ) (ps : Bytes) : Type 0 where
  pub records : record_size ≤ length rs
  pub payload : longest_payload s ≤ length ps
  pub named : length name ≤ 50

-- ts were written from the front of rs on, and so many fewer are to come; none are where the run has come to the end, and one at least was
-- written where it hasn't; the state handed back is taken again
pub record Did (s name f : Bytes) (from : Saved) (rs : List ℕ) (ps : Bytes) (o : EitherOutcome) : Type 0 where
  pub ts : List Step
  pub count : o.0.count ≡ length ts
  pub records : o.1 ≡ over (records_of 0 ts) rs
  pub fits : record_size * length ts ≤ length rs
  pub items : either_items s name f from ≡ ts ++ either_items s name f o.0.state
  pub fewer : length ts + left s (first_of o.0.state) ≤ left s (first_of from)
  pub ended : o.0.stop ≡ 0 → either_items s name f o.0.state ≡ []
  pub writes : Roomy s name rs ps → (o.0.stop ≡ 0 → ⊥) → 1 ≤ length ts
  pub taken_again : either_refusal s name f o.0.state ≡ 0

module _ (s name f : Bytes) where
  -- each step leaves one fewer at least
  steps_fewer : (st : State) (ts : List Step) (b : State) → Opened st → Steps s name f st ts b → length ts + left s b ≤ left s st
  steps_fewer st [] b o e = omega (arith, ap (left s) e)
  steps_fewer st (t ∷ ts) b o (m, e, rest) =
      let l = step_left s name f st o m in
      let q : Opened t.next = subst (λ (u : Step). Opened u.next) (sym e) l.0 in
      omega (arith, steps_fewer t.next ts b q rest, l.1, ap (λ (u : Step). left s u.next) e)

  module _ (rs : List ℕ) (ps : Bytes) where
    -- a run that stops for want of room has written an item, if the buffers have room for any one item
    some_written : (st : State) (ts : List Step) (b : State) (stop : ℕ) → Stands s st → Steps s name f st ts b
        → Stops s name f rs ps (length ts) (length (payloads_of ts)) b stop → Roomy s name rs ps → (stop ≡ 0 → ⊥) → 1 ≤ length ts
    unfolding payloads_of
    some_written st [] b stop h e w room n =
        by_equal stop 1 (λ q. absurd (omega (arith, (w.records_full.0 q).1))) λ m.
        let q = w.payload_full.0 (omega (arith, w.one_of)) in
        absurd (omega (arith, q.2, payload_short s name f room.named b (subst (Stands s) e h) q.0))
    some_written st (t ∷ ts) b stop h e w room n = omega arith

    -- ---- the first run

    first_did : (st : State) → (refusal s name f st).0 ≡ 0 → Did s name f (Characters st) rs ps (of_first (run s name f st rs ps))
    unfolding either_items either_refusal
    first_did st taken =
        let d = run_done s name f st rs ps taken in
        let b = (run s name f st rs ps).0.state in
        let stands = (run_accepted s name f st taken).stands in
        record {
          ts = d.ts;
          count = d.count;
          records = d.filled.records;
          fits = d.filled.records_fit;
          items = steps_then s name f st d.ts b stands.sound.opened d.filled.steps;
          fewer = steps_fewer st d.ts b stands.sound.opened d.filled.steps;
          ended = λ q. steps_of_end s name f b (d.stops.at_end.0 q);
          writes = some_written st d.ts b (run s name f st rs ps).0.stop stands d.filled.steps d.stops;
          taken_again = handed_back_taken s name f st rs ps taken;
        }

    -- ---- the second run

    module _ (g : Utf16State) (taken : (utf16_refusal s name f g).0 ≡ 0) where
      abbrev o : Utf16Outcome
      o = utf16_run s name f g rs ps

      d : Utf16Done s name f g rs ps o
      d = utf16_done s name f g rs ps taken

      same : SameItems s name f g (run s name f g.first rs ps) o
      same = same_items s name f g rs ps taken

      first : Did s name f (Characters g.first) rs ps (of_first (run s name f g.first rs ps))
      first = first_did g.first (refusal_taken s name f g taken).first

      -- both wrote as many
      many : length d.ts ≡ length first.ts
      many = sym d.count ∙ same.count ∙ first.count

      -- its items, and then those of the state handed back
      items_then : either_items s name f (Utf16 g) ≡ d.ts ++ either_items s name f (Utf16 o.0.state)
      unfolding either_items
      items_then =
          let m = length (steps_of s name f o.0.state.first) in
          let all = ap length first.items ∙ length-append first.ts (steps_of s name f (run s name f g.first rs ps).0.state) in
          let n : length (steps_of s name f g.first) ≡ length d.ts + m = rw (many, same.state) all in
          ap (λ (k : ℕ). second_steps utf16 s name f k g) n
          ∙ second_steps_add utf16 s name f (length d.ts) m g
          ∙ ap₂ (λ (ts : List Step) (b : Utf16State). ts ++ second_steps utf16 s name f m b) (sym d.items) (sym d.state)

      second_did : Did s name f (Utf16 g) rs ps (of_second o)
      unfolding either_items either_refusal second_steps
      second_did = record {
        ts = d.ts;
        count = d.count;
        records = d.records;
        fits = d.records_fit;
        items = items_then;
        fewer = rw (many, same.state) first.fewer;
        ended = λ q. ap (λ (ts : List Step). second_steps utf16 s name f (length ts) o.0.state) (steps_of_end s name f o.0.state.first (d.stops.at_end.0 q));
        writes = λ room n. rw many (first.writes room (λ q. n (same.stop ∙ q)));
        taken_again = utf16_handed_back s name f g rs ps taken;
      }

    second_refused : (g : Utf16State) → ((utf16_refusal s name f g).0 ≡ 0 → ⊥)
        → utf16_run s name f g rs ps ≡ (utf16_answer (utf16_refusal s name f g) 0 0 g, rs, ps)
    unfolding utf16_run
    second_refused g n = rw (utf16_run, ne_eqb (utf16_refusal s name f g).0 0 n)

    -- ---- either

    pub either_did : (from : Saved) → either_refusal s name f from ≡ 0 → Did s name f from rs ps (either_run s name f from rs ps)
    unfolding either_run either_refusal
    either_did (Characters st) taken = first_did st taken
    either_did (Utf16 g) taken = second_did g taken

    -- what a run says of refusals
    pub refusal_is : (from : Saved) → (either_run s name f from rs ps).0.refusal ≡ either_refusal s name f from
    unfolding either_run either_refusal
    refusal_is (Characters st) =
        by_equal (refusal s name f st).0 0
        (λ z. (run_done s name f st rs ps z).taken.0 ∙ sym z)
        (λ n. ap (λ (o : Outcome). o.0.refusal) (run_refused s name f st rs ps n))
    refusal_is (Utf16 g) =
        by_equal (utf16_refusal s name f g).0 0
        (λ z. (utf16_done s name f g rs ps z).taken.0 ∙ sym z)
        (λ n. ap (λ (o : Utf16Outcome). o.0.refusal) (second_refused g n))
