-- Document 01's laws for runs. s is the text, name the file's name, f the class file, st the state given, rs and ps the buffers as they
-- were lent. What the statements' words mean is in crate `definition` (Items) and in specs/ (Written, Split). Rests on the induction
-- over a run's turns (RunTurns).
use Prim.Native.Nat.{ℕ, ◌+◌, ◌*◌, ◌≤◌}
use mathlib.Core.Path.{◌≡◌, refl, sym, ap, ◌∙◌}
use mathlib.Core.Bool.{true}
use mathlib.Core.List.{List, ◌∷◌, ◌++◌, map, append_assoc, append-nil}
use native.Mathlib.Omega.{arith}
use lib.Dec.{eqb}
use lib.ListN.{length, take, drop, replicate}
use borrow.Author.Tests.{eq-eqb, eqb-true, eqb-false}
use Rattle.definition.specs.Basics.{Bytes, done}
use Rattle.definition.specs.Tables.{cps}
use Rattle.definition.specs.State.{started, sound}
use Rattle.definition.specs.Item.{Step, record_size, words}
use Rattle.definition.specs.Run.{Outcome, Writing, stopped, run_turn, most_items, refusal, refused, run}
use Rattle.definition.specs.Listed.{said, listed}
use Rattle.definition.specs.declared.State.{State}
use Rattle.lemmas.specs.Over.{over}
use Rattle.lemmas.proofs.Cases.{by_test}
use Rattle.lemmas.proofs.Loops.{says}
use Rattle.state.proofs.Soundness.{sound_is}
use Rattle.laws_run.specs.Going.{run_from}
use Rattle.laws_run.proofs.RunFuel.{run_unroll, run_is}
use Rattle.laws_run.specs.Budget.{budget}
use Rattle.laws_run.proofs.Refusals.{run_accepted, accepted_run}
use Rattle.definition.specs.Items.{Told, told, items_of, records_of, payloads_of}
use Rattle.laws_run.specs.Written.{Done}
use Rattle.laws_run.specs.Split.{written_by, Split, no_run, then_run}
use Rattle.laws_run.proofs.Items.{steps_of_end}
use Rattle.laws_run.proofs.Buffers.{over_rest, records_rest, record_there, payload_there}
use Rattle.laws_run.proofs.RunTurns.{Finished, run_finished}
use Rattle.laws_run.proofs.Finding.{done_items, done_whole}

module _ (s name f : Bytes) where
  module _ (st : State) (rs : List ℕ) (ps : Bytes) where
    -- "Any refusal alters no lent buffer and hands back the given state, no items and stop 0."
    pub run_refused : ((refusal s name f st).0 ≡ 0 → ⊥) → run s name f st rs ps ≡ (refused (refusal s name f st) st, rs, ps)
    unfolding run
    run_refused n =
        by_test (λ (o : Outcome). o ≡ (refused (refusal s name f st) st, rs, ps)) (eqb (refusal s name f st).0 0) (λ t. absurd (n (eqb-true _ 0 t))) (λ _. refl)

    module _ (taken : (refusal s name f st).0 ≡ 0) where
      -- what the run answers and leaves
      abbrev o : Outcome
      o = run s name f st rs ps

      -- what is known of it
      abbrev end : Finished s name f st rs ps (run s name f st rs ps)
      end = run_finished s name f st rs ps taken

      -- "Each item is what one step of the plain definition gives": from the state after the items before it. Their records and payloads
      -- stand in the buffers, from the fronts on; "numbers and bytes past the last written item and its payload keep what they held"; "the
      -- state handed back is the one after the last written item, or the given one if none is written"; and the run stops "at the end (stop
      -- 0)", with "fewer than 18 numbers left" (stop 1, by document 02), "or a payload longer than the bytes left (stop 2)".
      pub run_done : Done s name f st rs ps (run s name f st rs ps)
      run_done = end.done

      -- The state handed back is sound,
      pub handed_back_sound : sound s (run s name f st rs ps).0.state ≡ true
      handed_back_sound = sound_is s o.0.state end.stands.sound

      -- so that a run which is given it, with the same text, name and class file, isn't refused.
      pub handed_back_taken : (refusal s name f (run s name f st rs ps).0.state).0 ≡ 0
      handed_back_taken =
          let a = run_accepted s name f st taken in
          accepted_run s name f o.0.state (record { named = a.named; classes = a.classes; stands = end.stands })

      -- ---- the buffers, item by item

      -- One item among those written: its record, whose word 6 is the length of the payloads before it, and its payload from there on.
      module _ (before after : List Step) (t : Step) (e : run_done.ts ≡ before ++ (t ∷ after)) where
        pub record_stands : take record_size (drop (record_size * length before) (run s name f st rs ps).1) ≡ words t.item (length (payloads_of before))
        record_stands =
            ap (λ (l : List ℕ). take record_size (drop (record_size * length before) l)) (run_done.filled.records ∙ ap (λ (ts : List Step). over (records_of 0 ts) rs) e)
            ∙ record_there before t after rs

        pub payload_stands : take (length t.payload) (drop (length (payloads_of before)) (run s name f st rs ps).2) ≡ t.payload
        payload_stands =
            ap (λ (l : Bytes). take (length t.payload) (drop (length (payloads_of before)) l)) (run_done.filled.payload ∙ ap (λ (ts : List Step). over (payloads_of ts) ps) e)
            ∙ payload_there before t after ps

      -- The rest of both buffers is what it was.
      pub records_kept : drop (record_size * (run s name f st rs ps).0.count) (run s name f st rs ps).1 ≡ drop (record_size * (run s name f st rs ps).0.count) rs
      records_kept = rw run_done.filled.records (records_rest run_done.ts o.0.count rs run_done.count)

      pub payload_kept : drop (length (payloads_of run_done.ts)) (run s name f st rs ps).2 ≡ drop (length (payloads_of run_done.ts)) ps
      payload_kept = ap (drop (length (payloads_of run_done.ts))) run_done.filled.payload ∙ over_rest (payloads_of run_done.ts) ps

      -- ---- runs that come to the end

      -- "Mode 2 gives no items, stop 0."
      pub ended_given : st.mode ≡ 2 → run s name f st rs ps ≡ stopped 0 (record { state = st; records = rs; payload = ps; count = 0; used = 0 })
      unfolding run run_turn
      ended_given m =
          let a : Writing = record { state = st; records = rs; payload = ps; count = 0; used = 0 } in
          let first : run_turn s name f a ≡ done (stopped 0 a) = simp (eq-eqb st.mode 2 m, run_turn) in
          by_test (λ (x : Outcome). x ≡ stopped 0 a) (eqb (refusal s name f st).0 0)
          (λ _. run_is s name f st rs ps ∙ run_unroll s name f a (λ q. absurd (omega arith)) ∙ ap (λ t. says t (run_from s name f)) first)
          (λ n. absurd (eqb-false _ 0 n taken))

      -- A run whose buffers hold a record for each byte and each level that are left and two more, and the payload's budget, comes to the end.
      pub room_enough : record_size * most_items s st ≤ length rs → budget s st ≤ length ps → (run s name f st rs ps).0.state.mode ≡ 2
      room_enough = let a = run_accepted s name f st taken in done_whole s name f st rs ps o a.stands.sound.opened a.named end

      -- ---- the items

      -- What is found in a run's buffers, and then the items of the state handed back, are the items of the state given.
      pub items_written : items_of s name f st ≡ written_by (run s name f st rs ps) ++ items_of s name f (run s name f st rs ps).0.state
      items_written = done_items s name f st rs ps o (run_accepted s name f st taken).stands.sound.opened run_done

  -- ---- split runs

  -- The same of runs one after another.
  pub split_items : {st b : State} {l : List Told} → (refusal s name f st).0 ≡ 0 → Split s name f st l b → items_of s name f st ≡ l ++ items_of s name f b
  split_items taken no_run = refl
  split_items {st} {b} taken (then_run {l = l} rs ps rest) =
      let w = written_by (run s name f st rs ps) in
      items_written st rs ps taken
      ∙ ap (λ (r : List Told). w ++ r) (split_items (handed_back_taken st rs ps taken) rest)
      ∙ sym (append_assoc w l (items_of s name f b))

  -- None of them is refused, and the last state handed back is taken again.
  pub split_taken : {st b : State} {l : List Told} → (refusal s name f st).0 ≡ 0 → Split s name f st l b → (refusal s name f b).0 ≡ 0
  split_taken taken no_run = taken
  split_taken {st} taken (then_run rs ps rest) = split_taken (handed_back_taken st rs ps taken) rest

  -- However a text is split, runs that come to the end write its items from the state given,
  pub split_whole : {st b : State} {l : List Told} → (refusal s name f st).0 ≡ 0 → Split s name f st l b → b.mode ≡ 2 → l ≡ items_of s name f st
  split_whole {st} {b} {l} taken w m =
      sym (split_items taken w ∙ ap (λ (ts : List Step). l ++ map told ts) (steps_of_end s name f b m) ∙ append-nil l)

  -- and so "runs split by small buffers give the same items".
  pub splits_agree : {st b b' : State} {l l' : List Told} → (refusal s name f st).0 ≡ 0 → Split s name f st l b → b.mode ≡ 2
      → Split s name f st l' b' → b'.mode ≡ 2 → l ≡ l'
  splits_agree taken w m w' m' = split_whole taken w m ∙ sym (split_whole taken w' m')

-- ---- the table of cases

-- Document 01's marked lines are computed of `listed` (crates/definition/proofs/Cases.antt), and that is what the run of the contract says.
pub listed_run : (s f : Bytes) → listed s f ≡ said (run s (cps "stdin") f (started 1 0) (replicate (record_size * (length s + 1)) 0) (replicate (4 * length s) 0))
unfolding listed
listed_run s f = refl
