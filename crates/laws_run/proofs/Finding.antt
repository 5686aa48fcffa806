-- Two consequences of what a run has done: its items are found again in its buffers, and with room enough it comes to the end. Rests on the
-- laws of items and buffers beside this file, and on the payload's bound (Steps).
use Prim.Native.Nat.{ℕ, ◌*◌, ◌≤◌}
use mathlib.Core.Path.{◌≡◌, sym, ap, subst, ◌∙◌}
use mathlib.Core.List.{List, [], ◌∷◌, ◌++◌, map, map-append}
use native.Mathlib.Omega.{arith}
use lib.ListN.{length, length-append}
use Rattle.definition.specs.Basics.{Bytes}
use Rattle.definition.specs.Item.{Step, record_size}
use Rattle.definition.specs.Run.{Outcome, most_items}
use Rattle.definition.specs.declared.State.{State}
use Rattle.lemmas.specs.Over.{over}
use Rattle.lemmas.proofs.Cases.{by_equal}
use Rattle.lemmas.proofs.Each.{Each, none_left, ◌⨾◌}
use Rattle.laws_run.specs.Left.{Opened}
use Rattle.laws_run.specs.Budget.{budget}
use Rattle.laws_run.proofs.Forms.{Kept}
use Rattle.laws_run.proofs.Steps.{step_kept, payload_bound}
use Rattle.definition.specs.Items.{Told, told, steps_of, items_of, Steps}
use Rattle.laws_run.specs.Written.{Done}
use Rattle.laws_run.specs.Split.{items_in, written_by}
use Rattle.laws_run.proofs.Items.{steps_of_few, steps_of_on, steps_then}
use Rattle.laws_run.proofs.Buffers.{Measured, items_found}
use Rattle.laws_run.proofs.RunTurns.{Finished}

module _ (s name f : Bytes) where
  -- every record of some steps says how long its payload is
  pub steps_measured : (st : State) (ts : List Step) (b : State) → Opened st → Steps s name f st ts b → Each Measured ts
  steps_measured st [] b o e = none_left
  steps_measured st (t ∷ ts) b o (m, e, rest) =
      let k = subst (Kept s name st) (sym e) (step_kept s name f st o m) in
      k.measured ⨾ steps_measured t.next ts b (k.gives.opened o) rest

  module _ (st : State) (rs : List ℕ) (ps : Bytes) (o : Outcome) (opened : Opened st) where
    -- What is found in the buffers are the items written.
    items_found_again : (d : Done s name f st rs ps o) → written_by o ≡ map told d.ts
    unfolding over
    items_found_again d =
        let q = d.filled in
        ap (λ (n : ℕ). items_in n o.1 o.2) d.count
        ∙ items_found 0 d.ts o.1 _ o.2 _ (steps_measured st d.ts o.0.state opened q.steps) q.records q.payload

    -- They, and then the items of the state handed back, are the items of the state given.
    pub done_items : Done s name f st rs ps o → items_of s name f st ≡ written_by o ++ items_of s name f o.0.state
    done_items d =
        ap (map told) (steps_then s name f st d.ts o.0.state opened d.filled.steps)
        ∙ map-append told d.ts (steps_of s name f o.0.state)
        ∙ ap (λ (l : List Told). l ++ items_of s name f o.0.state) (sym (items_found_again d))

    -- Where the records' buffer has a record for each turn and the payload's the budget, neither is full before the end.
    pub done_whole : length name ≤ 4096 → Finished s name f st rs ps o → record_size * most_items s st ≤ length rs → budget s st ≤ length ps
        → o.0.state.mode ≡ 2
    done_whole named e r p = by_equal b.mode 2 (λ m. m) (λ n. absurd (short n))
      where
        b : State
        b = o.0.state

        d : Done s name f st rs ps o
        d = e.done

        stop : ℕ
        stop = o.0.stop

        -- one more item would be one of the text's
        records_full : (b.mode ≡ 2 → ⊥) → stop ≡ 1 → ⊥
        records_full n q =
            let all = ap length (steps_then s name f st d.ts b opened d.filled.steps) in
            let more = ap length (steps_of_on s name f b e.stands.sound.opened n) in
            absurd (omega (arith, (d.stops.records_full.0 q).1, all, length-append d.ts (steps_of s name f b), more, steps_of_few s name f st))

        -- its payload would be within the budget
        payload_full : (b.mode ≡ 2 → ⊥) → stop ≡ 2 → ⊥
        payload_full n q = absurd (omega (arith, (d.stops.payload_full.0 q).2, e.spent, payload_bound s name f named b e.stands n))

        short : (b.mode ≡ 2 → ⊥) → ⊥
        short n =
            by_equal stop 0 (λ e. n (d.stops.at_end.0 e)) λ x.
            by_equal stop 1 (records_full n) λ y.
            payload_full n (omega (arith, d.stops.one_of))
