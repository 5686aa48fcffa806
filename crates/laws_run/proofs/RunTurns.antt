-- What a run has done after each turn, by one induction over its turns. Rests on the laws of buffers and items beside this file, and on the
-- laws that a step keeps a state sound and stays within the budget (Steps, Payloads).
use Prim.Native.Nat.{ℕ, ◌+◌, ◌-◌, ◌*◌, ◌≤◌, ◌<◌}
use mathlib.Core.Path.{◌≡◌, refl, sym, ap, ap₂, ◌∙◌}
use mathlib.Core.List.{List, [], ◌∷◌, ◌++◌}
use native.Mathlib.Omega.{arith}
use lib.Dec.{eqb}
use lib.ListN.{length, length-append}
use borrow.Author.Tests.{eqb-true, eqb-false}
use Rattle.definition.specs.Basics.{Bytes, Turn}
use Rattle.definition.specs.Item.{Step, record_size, words}
use Rattle.definition.specs.Token.{step}
use Rattle.definition.specs.Run.{put, Outcome, Writing, stopped, written, run_turn, run_items, refusal, run}
use Rattle.definition.specs.declared.State.{State}
use Rattle.lemmas.specs.Over.{over}
use Rattle.lemmas.proofs.Over.{length_over}
use Rattle.lemmas.proofs.Cases.{by_test, by_lt}
use Rattle.lemmas.proofs.Loops.{Leads, Falls, loop_gives}
use Rattle.state.specs.Sound.{Stands}
use Rattle.laws_run.specs.Left.{left}
use Rattle.laws_run.specs.Budget.{budget}
use Rattle.laws_run.proofs.FormLaws.{awake_small}
use Rattle.laws_run.proofs.Refusals.{run_accepted}
use Rattle.laws_run.proofs.Steps.{step_stands, payload_bound, budget_small}
use Rattle.definition.specs.Items.{records_of, payloads_of}
use Rattle.laws_run.specs.Written.{Filled, Stops, Done}
use Rattle.laws_run.proofs.Items.{step_left, steps_snoc}
use Rattle.lemmas.proofs.Tails.{write_more}
use Rattle.laws_run.proofs.Buffers.{records_size, records_snoc, payloads_snoc}

module _ (s name f : Bytes) (rs : List ℕ) (ps : Bytes) (n used : ℕ) (b : State) where
  -- ---- the three reasons to stop

  -- the end
  stops_end : b.mode ≡ 2 → Stops s name f rs ps n used b 0
  stops_end m = record {
    at_end = (λ _. m, λ _. refl);
    records_full = (λ q. absurd (omega arith), λ p. absurd (p.0 m));
    payload_full = (λ q. absurd (omega arith), λ p. absurd (p.0 m));
    one_of = omega arith;
  }

  module _ (m : b.mode ≡ 2 → ⊥) where
    -- no room for a record
    stops_records : length rs - record_size * n < record_size → Stops s name f rs ps n used b 1
    stops_records h = record {
      at_end = (λ q. absurd (omega arith), λ q. absurd (m q));
      records_full = (λ _. (m, h), λ _. refl);
      payload_full = (λ q. absurd (omega arith), λ p. absurd (omega (arith, p.1)));
      one_of = omega arith;
    }

    -- room for a record, and none for its payload
    stops_payload : record_size ≤ length rs - record_size * n → length ps - used < length (step s name f b).payload → Stops s name f rs ps n used b 2
    stops_payload h l = record {
      at_end = (λ q. absurd (omega arith), λ q. absurd (m q));
      records_full = (λ q. absurd (omega arith), λ p. absurd (omega (arith, p.1)));
      payload_full = (λ _. (m, h, l), λ _. refl);
      one_of = omega arith;
    }

module _ (s name f : Bytes) (st : State) (rs : List ℕ) (ps : Bytes) where
  -- ---- the invariant

  -- where a run stands that was given st, rs and ps
  record Going (a : Writing) : Type 0 where
    ts : List Step
    filled : Filled s name f st rs ps ts a.state a.records a.payload
    count : a.count ≡ length ts
    used : a.used ≡ length (payloads_of ts)
    stands : Stands s a.state
    spent : a.used + budget s a.state ≤ budget s st

  -- what it has done in the end
  pub record Finished (o : Outcome) : Type 0 where
    pub done : Done s name f st rs ps o
    pub stands : Stands s o.0.state
    pub spent : length (payloads_of done.ts) + budget s o.0.state ≤ budget s st

  -- it begins with nothing written
  going_starts : Stands s st → Going (record { state = st; records = rs; payload = ps; count = 0; used = 0 })
  unfolding records_of payloads_of over
  going_starts h = record {
    ts = [];
    filled = record { steps = refl; records = refl; payload = refl; records_fit = omega arith; payload_fits = omega arith };
    count = refl;
    used = refl;
    stands = h;
    spent = omega arith;
  }

  module _ (a : Writing) (g : Going a) where
    -- the buffers keep their lengths
    records_length : length a.records ≡ length rs
    records_length =
        let q = g.filled in
        ap length q.records ∙ length_over (records_of 0 g.ts) rs (omega (arith, records_size 0 g.ts, q.records_fit))

    -- the payload's too
    payload_length : length a.payload ≡ length ps
    payload_length = let q = g.filled in ap length q.payload ∙ length_over (payloads_of g.ts) ps q.payload_fits

    -- it ends with what is written
    finished : Stands s st → (stop : ℕ) → Stops s name f rs ps (length g.ts) (length (payloads_of g.ts)) a.state stop → Finished (stopped stop a)
    finished h stop w = record {
      done = record {
        ts = g.ts;
        filled = g.filled;
        count = g.count;
        stops = w;
        taken = (refl, refl);
        small = omega (arith, g.spent, g.used, budget_small s st h);
      };
      stands = g.stands;
      spent = omega (arith, g.spent, g.used);
    }

    module _ (m : a.state.mode ≡ 2 → ⊥) where
      -- the next item
      abbrev t : Step
      t = step s name f a.state

      -- with it
      abbrev ts' : List Step
      ts' = g.ts ++ (t ∷ [])

      -- both buffers, with one item more
      records_written : put a.records (record_size * a.count) (words t.item a.used) ≡ over (records_of 0 ts') rs
      records_written =
          let vs = records_of 0 g.ts in
          let at : record_size * a.count ≡ length vs = omega (arith, records_size 0 g.ts, g.count) in
          let u : a.used ≡ 0 + length (payloads_of g.ts) = omega (arith, g.used) in
          ap (λ (l : List ℕ). put l (record_size * a.count) (words t.item a.used)) g.filled.records
          ∙ ap₂ (λ (i k : ℕ). put (over vs rs) i (words t.item k)) at u
          ∙ write_more vs (words t.item (0 + length (payloads_of g.ts))) rs
          ∙ ap (λ (l : List ℕ). over l rs) (sym (records_snoc 0 g.ts t))

      -- the payload's
      payload_written : put a.payload a.used t.payload ≡ over (payloads_of ts') ps
      payload_written =
          let vs = payloads_of g.ts in
          ap₂ (λ (l : Bytes) (i : ℕ). put l i t.payload) g.filled.payload g.used
          ∙ write_more vs t.payload ps
          ∙ ap (λ (l : Bytes). over l ps) (sym (payloads_snoc g.ts t))

      -- it goes on where both have room
      going_on : length name ≤ 4096 → record_size ≤ length a.records - record_size * a.count → length t.payload ≤ length a.payload - a.used
          → Going (written a t)
      going_on named r p =
          let q = g.filled in
          let more : length ts' ≡ length g.ts + 1 = length-append g.ts (t ∷ []) in
          let longer : length (payloads_of ts') ≡ length (payloads_of g.ts) + length t.payload =
          ap length (payloads_snoc g.ts t) ∙ length-append (payloads_of g.ts) t.payload
          in
          let c = g.count in
          let u = g.used in
          record {
            ts = ts';
            filled = record {
              steps = steps_snoc s name f st g.ts a.state q.steps m;
              records = records_written;
              payload = payload_written;
              records_fit = omega (arith, more, records_length, q.records_fit);
              payload_fits = omega (arith, longer, payload_length, q.payload_fits);
            };
            count = omega arith;
            used = omega arith;
            stands = step_stands s name f a.state g.stands m;
            spent = omega (arith, g.spent, payload_bound s name f named a.state g.stands m);
          }

  -- ---- the turns

  module _ (named : length name ≤ 4096) (h : Stands s st) where
    -- what a turn may say
    abbrev L : Writing → Turn Writing Outcome → Type 0
    L a = Leads (λ b. Going b × (left s b.state < left s a.state)) Finished

    -- a turn of `run_items`
    turn_goes : (a : Writing) → Going a → L a (run_turn s name f a)
    unfolding run_turn
    turn_goes a g =
        by_test (L a) (eqb a.state.mode 2)
        (λ t. finished a g h 0 (stops_end s name f rs ps _ _ a.state (eqb-true a.state.mode 2 t))) λ t.
        let m : a.state.mode ≡ 2 → ⊥ = eqb-false a.state.mode 2 t in
        let c = g.count in
        let u = g.used in
        let rl = records_length a g in
        let pl = payload_length a g in
        by_lt (L a) (length a.records - record_size * a.count) record_size
        (λ l. finished a g h 1 (stops_records s name f rs ps _ _ a.state m (omega arith))) λ r.
        by_lt (L a) (length a.payload - a.used) (length (step s name f a.state).payload)
        (λ l. finished a g h 2 (stops_payload s name f rs ps _ _ a.state m (omega arith) (omega arith)))
        (λ p. (going_on a g m named r p, (step_left s name f a.state g.stands.sound.opened m).1))

    -- What a run has done that was given a sound state.
    items_finished : Finished (run_items s name f st rs ps)
    unfolding run_items
    items_finished =
        let falls : Falls (run_turn s name f) Going (λ a. left s a.state) Finished = record { at = turn_goes } in
        loop_gives falls (stopped 0) _ _ (going_starts h) (omega (arith, awake_small st.mode))

  -- What a run has done that isn't refused.
  pub run_finished : (refusal s name f st).0 ≡ 0 → Finished (run s name f st rs ps)
  unfolding run
  run_finished e =
      let a = run_accepted s name f st e in
      by_test Finished (eqb (refusal s name f st).0 0) (λ _. items_finished a.named a.stands) (λ n. absurd (eqb-false _ 0 n e))
