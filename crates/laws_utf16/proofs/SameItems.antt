-- The second run gives the same items as the first from the same nine numbers, record by record. Rests on what both runs have done (Runs;
-- crate `laws_run`, Laws) and on the records of one item (OneStep).
use Prim.Native.Nat.{ℕ, zero, suc, ◌+◌, ◌<◌}
use mathlib.Core.Path.{◌≡◌, refl, sym, ap, subst, ◌∙◌}
use mathlib.Core.List.{List, [], ◌∷◌, ◌++◌}
use native.Mathlib.Omega.{arith}
use lib.ListN.{length, length-append}
use Rattle.definition.specs.Basics.{Bytes}
use Rattle.definition.specs.Item.{Step, words}
use Rattle.definition.specs.Token.{step}
use Rattle.definition.specs.Run.{Outcome, run}
use Rattle.definition.specs.Items.{Steps, records_of, payloads_of}
use Rattle.definition.specs.Utf16.{utf16, second_step, second_next, second_steps, second_after, utf16_refusal, utf16_run}
use Rattle.definition.specs.declared.State.{State}
use Rattle.definition.specs.declared.Utf16State.{Utf16State}
use Rattle.lemmas.specs.Over.{over}
use Rattle.lemmas.proofs.Over.{length_over}
use Rattle.laws_run.specs.Written.{Done}
use Rattle.laws_run.proofs.Buffers.{records_size, records_rest, record_there}
use Rattle.laws_utf16.specs.Same.{record_of, SameRecord, SameItems}
use Rattle.laws_utf16.specs.Accepted.{Utf16Stands}
use Rattle.laws_utf16.proofs.Refusals.{taken_stands}
use Rattle.laws_utf16.proofs.Steps.{second_steps_add, second_steps_length, second_after_first, second_payloads}
use Rattle.laws_utf16.proofs.OneStep.{same_record, second_after_stands}
use Rattle.laws_utf16.proofs.Runs.{put_front, second_of, utf16_run_is, same_state, first_done}

-- ---- one step among some

-- the steps before it, the state that it is given at, which hasn't ended, and the steps after it
record Among (s name f : Bytes) (st : State) (ts : List Step) : Type 0 where
  before : List Step
  at : State
  after : List Step
  steps : Steps s name f st before at
  going : at.mode ≡ 2 → ⊥
  split : ts ≡ before ++ (step s name f at ∷ after)

among : (s name f : Bytes) (st : State) (ts : List Step) (b : State) (k : ℕ) → Steps s name f st ts b → k < length ts
    → (i : Among s name f st ts) × (length i.before ≡ k)
among s name f st [] b k e h = absurd (omega arith)
among s name f st (t ∷ ts) b zero (m, e, rest) h =
    (record { before = []; at = st; after = ts; steps = refl; going = m; split = ap (λ (u : Step). u ∷ ts) e }, refl)
among s name f st (t ∷ ts) b (suc k) (m, e, rest) h =
    let (i, many) = among s name f t.next ts b k rest (omega arith) in (
      record {
        before = t ∷ i.before;
        at = i.at;
        after = i.after;
        steps = (m, e, i.steps);
        going = i.going;
        split = ap (λ (us : List Step). t ∷ us) i.split;
      },
      ap suc many,
    )

-- its record, where the records of all of them stand at the front of a buffer
record_here : {ts : List Step} {k : ℕ} {l : List ℕ} (before : List Step) (t : Step) (after : List Step) (rs : List ℕ)
    → l ≡ over (records_of 0 ts) rs → ts ≡ before ++ (t ∷ after) → length before ≡ k → record_of k l ≡ words t.item (length (payloads_of before))
record_here before t after rs b e many = rw (b, e, ← many) (record_there before t after rs)

module _ (s name f : Bytes) (g : Utf16State) (rs : List ℕ) (ps : Bytes) (h : Utf16Stands s g) (o : Outcome) (d : Done s name f g.first rs ps o) where
  -- ---- the records

  -- those of item k, each run's
  abbrev SameAt : ℕ → Type 0
  SameAt k = SameRecord s name f (second_after utf16 s name f k g) (record_of k o.1) (record_of k (second_of s name f g rs ps o).1)

  module _ (i : Among s name f g.first d.ts) where
    -- how many steps and payload bytes are before it
    abbrev k : ℕ
    k = length i.before

    abbrev used : ℕ
    used = length (payloads_of i.before)

    -- the second run's state there
    abbrev a : Utf16State
    a = second_after utf16 s name f k g

    a_first : a.first ≡ i.at
    a_first = second_after_first utf16 s name f g i.before i.at i.steps

    first_record : record_of k o.1 ≡ words (step s name f a.first).item used
    first_record = rw a_first (record_here i.before (step s name f i.at) i.after rs d.filled.records i.split refl)

    second_split : second_steps utf16 s name f o.0.count g
        ≡ second_steps utf16 s name f k g ++ (second_step utf16 s name f a ∷ second_steps utf16 s name f (length i.after) (second_next utf16 s name f a))
    unfolding second_steps
    second_split =
        let n : o.0.count ≡ k + suc (length i.after) =
        omega (arith, d.count, ap length i.split, length-append i.before (step s name f i.at ∷ i.after))
        in
        ap (λ (n : ℕ). second_steps utf16 s name f n g) n ∙ second_steps_add utf16 s name f k (suc (length i.after)) g

    second_record : record_of k (second_of s name f g rs ps o).1 ≡ words (second_step utf16 s name f a).item used
    second_record =
        record_here (second_steps utf16 s name f k g) (second_step utf16 s name f a) _ rs (put_front rs _) second_split (second_steps_length utf16 s name f k g)
        ∙ ap (λ (p : Bytes). words (second_step utf16 s name f a).item (length p)) (second_payloads utf16 s name f g i.before i.at i.steps)

    records_there : SameAt k
    records_there =
        rw (first_record, second_record)
        (same_record s name f a (second_after_stands s name f g i.before i.at h i.steps) (rw a_first i.going) used)

  records : (k : ℕ) → k < o.0.count → SameAt k
  records k l =
      let (i, many) = among s name f g.first d.ts o.0.state k d.filled.steps (omega (arith, d.count)) in
      subst SameAt many (records_there i)

  -- ---- the runs

  -- a buffer that begins with the records of as many steps as fit is as long as it was lent
  as_lent : (us : List Step) → length us ≡ o.0.count → length (over (records_of 0 us) rs) ≡ length rs
  as_lent us many = length_over (records_of 0 us) rs (omega (arith, records_size 0 us, many, d.count, d.filled.records_fit))

  same_by_first : SameItems s name f g o (second_of s name f g rs ps o)
  same_by_first =
      let us = second_steps utf16 s name f o.0.count g in
      let many = second_steps_length utf16 s name f o.0.count g in
      record {
        taken = d.taken.0;
        stop = refl;
        count = refl;
        state = same_state s name f g rs ps o d;
        payload = refl;
        records = records;
        room = rw (put_front rs (records_of 0 us), d.filled.records) (as_lent us many ∙ sym (as_lent d.ts (sym d.count)));
        rest =
            rw (put_front rs (records_of 0 us), d.filled.records)
            (records_rest us o.0.count rs (sym many) ∙ sym (records_rest d.ts o.0.count rs d.count));
      }

-- Document 02, K2: the second run gives the same items, payloads unchanged, and each of its positions is that of the same place.
pub same_items : (s name f : Bytes) (g : Utf16State) (rs : List ℕ) (ps : Bytes) → (utf16_refusal s name f g).0 ≡ 0
    → SameItems s name f g (run s name f g.first rs ps) (utf16_run s name f g rs ps)
same_items s name f g rs ps taken =
    rw (utf16_run_is s name f g rs ps taken)
    (same_by_first s name f g rs ps (taken_stands s name f g taken) (run s name f g.first rs ps) (first_done s name f g rs ps taken))
