-- Document 01's laws for runs, of the second run. s is the text, name the file's name, f the class file, g the state given, rs and ps the
-- buffers as they were lent. Rests on the laws of the first run (crate `laws_run`, Laws).
use Prim.Native.Nat.{ℕ, ◌+◌}
use mathlib.Core.Path.{◌≡◌, refl, sym, ap, ◌∙◌}
use mathlib.Core.List.{List, [], ◌++◌, map, map-append, append_assoc, append-nil}
use native.Mathlib.Omega.{arith}
use lib.ListN.{length, length-append}
use borrow.Author.Tests.{eq-eqb}
use Rattle.definition.specs.Basics.{Bytes}
use Rattle.definition.specs.Item.{Step}
use Rattle.definition.specs.Run.{put, Outcome, run_items, refusal, run}
use Rattle.definition.specs.Items.{Told, told, records_of, payloads_of, steps_of}
use Rattle.definition.specs.Utf16.{utf16, second_steps, second_after, utf16_refusal, Utf16Outcome, utf16_answer, utf16_run}
use Rattle.definition.specs.declared.State.{State}
use Rattle.definition.specs.declared.Utf16State.{Utf16State}
use Rattle.lemmas.specs.Over.{over}
use Rattle.lemmas.proofs.Each.{Each}
use Rattle.lemmas.proofs.Tails.{write_more}
use Rattle.laws_run.specs.Left.{Opened}
use Rattle.laws_run.specs.Split.{items_in}
use Rattle.laws_run.specs.Written.{Done}
use Rattle.laws_run.proofs.Buffers.{Measured, items_found}
use Rattle.laws_run.proofs.Refusals.{run_accepted}
use Rattle.laws_run.proofs.Items.{steps_of_end, steps_then}
use Rattle.laws_run.proofs.Finding.{steps_measured}
use Rattle.laws_run.proofs.Laws.{run_done}
use Rattle.laws_utf16.specs.Accepted.{Utf16Stands}
use Rattle.laws_utf16.specs.Written.{Utf16Done, utf16_items_of, utf16_written_by, Utf16Split, no_run, then_run}
use Rattle.laws_utf16.proofs.Refusals.{refusal_taken, taken_stands, stands_taken}
use Rattle.laws_utf16.proofs.OneStep.{second_after_stands}
use Rattle.laws_utf16.proofs.Steps.{second_steps_add, second_steps_length, second_after_first, second_going, second_payloads, second_measured}

-- numbers put at the front
pub put_front : (l vs : List ℕ) → put l 0 vs ≡ over vs l
unfolding over
put_front l vs = write_more [] vs l

module _ (s name f : Bytes) where
  module _ (g : Utf16State) (rs : List ℕ) (ps : Bytes) where
    -- ---- the second run by the first

    -- what the second run answers and leaves, where o is what the first does from the nine numbers
    abbrev pub second_of : Outcome → Utf16Outcome
    second_of o =
        let n = o.0.count in
        (utf16_answer (0, 0) o.0.stop n (second_after utf16 s name f n g), put rs 0 (records_of 0 (second_steps utf16 s name f n g)), o.2)

    run_is_items : (st : State) → (refusal s name f st).0 ≡ 0 → run s name f st rs ps ≡ run_items s name f st rs ps
    unfolding run
    run_is_items st e = rw (run, eq-eqb (refusal s name f st).0 0 e)

    pub utf16_run_is : (utf16_refusal s name f g).0 ≡ 0 → utf16_run s name f g rs ps ≡ second_of (run s name f g.first rs ps)
    unfolding utf16_run
    utf16_run_is e =
        rw (utf16_run, eq-eqb (utf16_refusal s name f g).0 0 e) (ap second_of (sym (run_is_items g.first (refusal_taken s name f g e).first)))

    module _ (o : Outcome) (d : Done s name f g.first rs ps o) where
      -- its steps, and the state after them
      abbrev us : List Step
      us = second_steps utf16 s name f o.0.count g

      abbrev g' : Utf16State
      g' = second_after utf16 s name f o.0.count g

      many : length us ≡ o.0.count
      many = second_steps_length utf16 s name f o.0.count g

      pub same_state : (second_after utf16 s name f o.0.count g).first ≡ o.0.state
      same_state = rw d.count (second_after_first utf16 s name f g d.ts o.0.state d.filled.steps)

      same_payloads : payloads_of us ≡ payloads_of d.ts
      same_payloads = rw d.count (second_payloads utf16 s name f g d.ts o.0.state d.filled.steps)

      done_by_first : Utf16Done s name f g rs ps (second_of o)
      done_by_first =
          let q = d.filled in
          record {
            ts = us;
            items = ap (λ (n : ℕ). second_steps utf16 s name f n g) (sym many);
            going = λ k h. second_going utf16 s name f g d.ts o.0.state q.steps k (omega (arith, many, d.count));
            count = sym many;
            state = ap (λ (n : ℕ). second_after utf16 s name f n g) (sym many);
            records = put_front rs (records_of 0 us);
            payload = q.payload ∙ ap (λ (l : Bytes). over l ps) (sym same_payloads);
            records_fit = omega (arith, many, d.count, q.records_fit);
            payload_fits = omega (arith, ap length same_payloads, q.payload_fits);
            stops = rw (many ∙ d.count, same_payloads, same_state) d.stops;
            taken = (refl, refl);
            small = omega (arith, ap length same_payloads, d.small);
          }

      module _ (opened : Opened g.first) where
        measured : Each Measured us
        measured =
            rw d.count
            (second_measured utf16 s name f g d.ts o.0.state d.filled.steps
            (steps_measured s name f g.first d.ts o.0.state opened d.filled.steps))

        -- what is found in the buffers are its items
        found_again : utf16_written_by (second_of o) ≡ map told us
        unfolding over done_by_first
        found_again =
            let u = done_by_first in
            ap (λ (n : ℕ). items_in n (second_of o).1 (second_of o).2) u.count
            ∙ items_found 0 us (second_of o).1 _ (second_of o).2 _ measured u.records u.payload

        -- they, and then those of the state handed back, are those of the state given
        items_by_first : utf16_items_of s name f g ≡ utf16_written_by (second_of o) ++ utf16_items_of s name f (second_of o).0.state
        items_by_first =
            let rest = length (steps_of s name f g'.first) in
            let all = ap length (steps_then s name f g.first d.ts o.0.state opened d.filled.steps) in
            let n : length (steps_of s name f g.first) ≡ o.0.count + rest =
            rw (same_state, d.count) (all ∙ length-append d.ts (steps_of s name f o.0.state))
            in
            ap (λ (k : ℕ). map told (second_steps utf16 s name f k g)) n
            ∙ ap (map told) (second_steps_add utf16 s name f o.0.count rest g)
            ∙ map-append told us (second_steps utf16 s name f rest g')
            ∙ ap (λ (l : List Told). l ++ utf16_items_of s name f g') (sym found_again)

    -- ---- a run that isn't refused

    module _ (taken : (utf16_refusal s name f g).0 ≡ 0) where
      -- what the first run has done
      pub first_done : Done s name f g.first rs ps (run s name f g.first rs ps)
      first_done = run_done s name f g.first rs ps (refusal_taken s name f g taken).first

      stands : Utf16Stands s g
      stands = taken_stands s name f g taken

      -- "Each item is what one step of the plain definition gives", and all that is said of a run of the first.
      pub utf16_done : Utf16Done s name f g rs ps (utf16_run s name f g rs ps)
      utf16_done = rw (utf16_run_is taken) (done_by_first (run s name f g.first rs ps) first_done)

      -- A run that is given the state handed back, with the same text, name and class file, isn't refused, with 9 or with 10 either.
      pub utf16_handed_back : (utf16_refusal s name f (utf16_run s name f g rs ps).0.state).0 ≡ 0
      utf16_handed_back =
          let d = first_done in
          rw (utf16_run_is taken, d.count)
          (stands_taken s name f (second_after utf16 s name f (length d.ts) g) (run_accepted s name f g.first (refusal_taken s name f g taken).first)
          (second_after_stands s name f g d.ts (run s name f g.first rs ps).0.state stands d.filled.steps))

      -- What is found in a run's buffers, and then the items of the state handed back, are the items of the state given.
      pub utf16_items_written : utf16_items_of s name f g
          ≡ utf16_written_by (utf16_run s name f g rs ps) ++ utf16_items_of s name f (utf16_run s name f g rs ps).0.state
      utf16_items_written = rw (utf16_run_is taken) (items_by_first (run s name f g.first rs ps) first_done stands.first.sound.opened)

  -- ---- split runs

  -- The same of runs one after another.
  pub utf16_split_items : {g b : Utf16State} {l : List Told} → (utf16_refusal s name f g).0 ≡ 0 → Utf16Split s name f g l b
      → utf16_items_of s name f g ≡ l ++ utf16_items_of s name f b
  utf16_split_items taken no_run = refl
  utf16_split_items {g} {b} taken (then_run {l = l} rs ps rest) =
      let w = utf16_written_by (utf16_run s name f g rs ps) in
      utf16_items_written g rs ps taken
      ∙ ap (λ (r : List Told). w ++ r) (utf16_split_items (utf16_handed_back g rs ps taken) rest)
      ∙ sym (append_assoc w l (utf16_items_of s name f b))

  -- However a text is split, runs that come to the end write its items from the state given,
  pub utf16_split_whole : {g b : Utf16State} {l : List Told} → (utf16_refusal s name f g).0 ≡ 0 → Utf16Split s name f g l b → b.first.mode ≡ 2
      → l ≡ utf16_items_of s name f g
  unfolding second_steps
  utf16_split_whole {g} {b} {l} taken w m =
      let none : utf16_items_of s name f b ≡ [] =
      ap (λ (ts : List Step). map told (second_steps utf16 s name f (length ts) b)) (steps_of_end s name f b.first m)
      in
      sym (utf16_split_items taken w ∙ ap (λ (r : List Told). l ++ r) none ∙ append-nil l)

  -- and so "runs split by small buffers give the same items".
  pub utf16_splits_agree : {g b b' : Utf16State} {l l' : List Told} → (utf16_refusal s name f g).0 ≡ 0 → Utf16Split s name f g l b → b.first.mode ≡ 2
      → Utf16Split s name f g l' b' → b'.first.mode ≡ 2 → l ≡ l'
  utf16_splits_agree taken w m w' m' = utf16_split_whole taken w m ∙ sym (utf16_split_whole taken w' m')
