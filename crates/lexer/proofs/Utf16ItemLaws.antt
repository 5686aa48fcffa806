-- The second run, turn by turn: what is still to come of the first run gives what the whole gives, and what is written is the second run's.
-- Rests on the laws of a run that goes on (crate `run_turn`) and on those of the second run's steps (crate `laws_utf16`).
use Prim.Native.Nat.{ℕ, ◌+◌, ◌*◌, ◌<◌}
use mathlib.Core.Path.{◌≡◌, refl, sym, ap, ap₂, subst, ◌∙◌}
use mathlib.Core.List.{List, [], ◌∷◌, ◌++◌}
use native.Mathlib.Omega.{arith}
use lib.ListN.{length, length-append}
use borrow.Author.Tests.{eq-eqb}
use Rattle.definition.specs.Basics.{Bytes, again, done}
use Rattle.definition.specs.Item.{Step, record_size, words}
use Rattle.definition.specs.Token.{step}
use Rattle.definition.specs.Run.{put, Writing, run_turn}
use Rattle.definition.specs.Items.{records_of, payloads_of}
use Rattle.definition.specs.Utf16.{utf16, second_step, second_next, second_steps, second_after, utf16_refusal, Utf16Outcome, utf16_answer, utf16_run}
use Rattle.definition.specs.declared.Utf16State.{Utf16State}
use Rattle.lemmas.specs.Over.{over}
use Rattle.lemmas.proofs.Tails.{write_more, length_put}
use Rattle.laws_run.specs.Left.{left}
use Rattle.laws_run.proofs.Buffers.{words_size, records_size, records_snoc, payloads_snoc}
use Rattle.laws_run.proofs.Moving.{stands_within}
use Rattle.laws_run.proofs.Refusals.{run_accepted}
use Rattle.laws_utf16.specs.Accepted.{Utf16Stands}
use Rattle.laws_utf16.proofs.Refusals.{refusal_taken, taken_stands}
use Rattle.laws_utf16.proofs.Steps.{second_steps_snoc, second_after_snoc, second_steps_length}
use Rattle.laws_utf16.proofs.OneStep.{second_next_stands}
use Rattle.laws_utf16.proofs.Runs.{put_front, second_of}
use Rattle.utf16_positions.specs.Places.{first_place, line_of, Tallied}
use Rattle.utf16_positions.proofs.PlaceLaws.{place_there}
use Rattle.run_turn.specs.Running.{writing, answered, Going}
use Rattle.utf16_turn.specs.Turning.{cursor_at, cursor_of, Utf16Between, Utf16Wrote}
use Rattle.utf16_turn.specs.declared.Utf16Cursor.{Utf16Cursor}
use Rattle.run_turn.proofs.RunLaws.{going_starts, going_stops, going_on}
use Rattle.utf16_turn.proofs.ShadowLaws.{WritesAlike, shadow_stops, shadow_writes}

-- where a second run stands that began from g₀ with the buffers rs₀ and ps₀: the first run, which has written other records of the same
-- length, goes on; the state and the records are those of the second run's steps
pub record Utf16Going (s name f : Bytes) (g₀ : Utf16State) (rs₀ : List ℕ) (ps₀ : Bytes) (at : Utf16Cursor) (count used : ℕ) (rs : List ℕ) (ps : Bytes) : Type 0 where
  pub shadow : List ℕ
  pub going : Going s name f g₀.first rs₀ ps₀ (cursor_of at) count used shadow ps
  pub same_length : length shadow ≡ length rs
  pub stands : Utf16Stands s at.state
  pub tallied : Tallied s at.tally
  pub state : at.state ≡ second_after utf16 s name f count g₀
  pub records : rs ≡ over (records_of 0 (second_steps utf16 s name f count g₀)) rs₀
  pub used_is : used ≡ length (payloads_of (second_steps utf16 s name f count g₀))

-- with other records
abbrev with_records : Writing → List ℕ → Writing
with_records a l = record { state = a.state; records = l; payload = a.payload; count = a.count; used = a.used }

-- ---- where it begins

module _ (s name f : Bytes) (g : Utf16State) (rs : List ℕ) (ps : Bytes) (taken : (utf16_refusal s name f g).0 ≡ 0) where
  h : Utf16Stands s g
  h = taken_stands s name f g taken

  -- at the line's start both columns are known
  start_tallied : Tallied s (cursor_at g).tally
  start_tallied =
      let o = h.first.sound.order in
      let l = line_of g.first g.column in
      record {
        begins = record {
          short = h.first.short;
          within = omega (arith, o, stands_within h.first);
          margin = h.second.column;
        };
        after = omega arith;
        known = sym (place_there utf16 s (first_place l) l.column (omega arith));
      }

  pub utf16_starts : Utf16Going s name f g rs ps (cursor_at g) 0 0 rs ps
  unfolding second_after second_steps records_of payloads_of over
  utf16_starts = record {
    shadow = rs;
    going = going_starts s name f g.first rs ps (run_accepted s name f g.first (refusal_taken s name f g taken).first);
    same_length = refl;
    stands = h;
    tallied = start_tallied;
    state = refl;
    records = refl;
    used_is = refl;
  }

module _ {s name f : Bytes} {g₀ : Utf16State} {rs₀ : List ℕ} {ps₀ : Bytes} {at : Utf16Cursor} {count used : ℕ} {rs : List ℕ} {ps : Bytes}
    (k : Utf16Going s name f g₀ rs₀ ps₀ at count used rs ps) where
  abbrev us : List Step
  us = second_steps utf16 s name f count g₀

  -- what a turn asks for
  pub turn_asked : Utf16Between s name f at count used rs ps
  turn_asked =
      let b = k.going.between in
      let q = b.kept in
      record {
        between = record {
          accepted = b.accepted;
          named = b.named;
          kept = record { stands = q.stands; begun = omega (arith, q.begun, k.same_length); filled = q.filled; spent = q.spent; few = q.few };
          cached = b.cached;
        };
        stands = k.stands;
        tallied = k.tallied;
      }

  -- ---- a turn that stops answers for the whole

  module _ (stop : ℕ) (rs' : List ℕ) (ps' : Bytes)
      (e : run_turn s name f (writing (cursor_of at) count used rs ps) ≡ done (answered stop count at.state.first, rs', ps')) where
    stops_from_it : (utf16_refusal s name f g₀).0 ≡ 0
        → ◌≡◌ {A = Utf16Outcome} (utf16_answer (0, 0) stop count at.state, rs', ps') (utf16_run s name f g₀ rs₀ ps₀)
    unfolding utf16_run
    stops_from_it taken =
        let q = shadow_stops s name f at.state.first count used ps rs k.shadow k.same_length (answered stop count at.state.first, rs', ps') e in
        let whole = going_stops k.going stop k.shadow ps q.alike in
        rw (utf16_run, eq-eqb (utf16_refusal s name f g₀).0 0 taken)
        (ap₂ (λ (g : Utf16State) (l : List ℕ). (utf16_answer (0, 0) stop count g, l, ps')) k.state (q.records ∙ k.records ∙ sym (put_front rs₀ (records_of 0 us)))
        ∙ ap (λ (l : Bytes). (utf16_answer (0, 0) stop count (second_after utf16 s name f count g₀), put rs₀ 0 (records_of 0 us), l)) q.payload
        ∙ ap (second_of s name f g₀ rs₀ ps₀) whole)

    pub utf16_stops : {g : Utf16State} → g₀ ≡ g → (utf16_refusal s name f g).0 ≡ 0
        → ◌≡◌ {A = Utf16Outcome} (utf16_answer (0, 0) stop count at.state, rs', ps') (utf16_run s name f g rs₀ ps₀)
    utf16_stops begun =
        subst (λ (g : Utf16State). (utf16_refusal s name f g).0 ≡ 0 → ◌≡◌ {A = Utf16Outcome} (utf16_answer (0, 0) stop count at.state, rs', ps') (utf16_run s name f g rs₀ ps₀))
        begun stops_from_it

  -- ---- a turn that wrote an item goes on

  module _ {next : Utf16Cursor} {used' : ℕ} {rs' : List ℕ} {ps' : Bytes} (w : Utf16Wrote s name f at count used rs ps next used' rs' ps') where
    abbrev t : Step
    t = step s name f at.state.first

    abbrev u : Step
    u = second_step utf16 s name f at.state

    wrote : WritesAlike s name f at.state.first count used ps rs k.shadow k.same_length (writing (cursor_of next) (count + 1) used' (put rs (record_size * count) (words t.item used)) ps')
    wrote = shadow_writes s name f at.state.first count used ps rs k.shadow k.same_length _ w.first

    -- where the first run goes on
    first_on : Going s name f g₀.first rs₀ ps₀ (cursor_of next) (count + 1) used' (put k.shadow (record_size * count) (words t.item used)) ps'
        × (left s next.state.first < left s at.state.first)
    first_on =
        let l = put k.shadow (record_size * count) (words t.item used) in
        going_on k.going (cursor_of next) used' l ps' (wrote.alike ∙ ap (λ (a : Writing). again (with_records a l)) (sym wrote.is), w.known)

    -- both records' buffers keep their length
    lengths : length (put k.shadow (record_size * count) (words t.item used)) ≡ length rs'
    lengths =
        let fits = wrote.fits in
        let a = length_put k.shadow (record_size * count) (words t.item used) (omega (arith, words_size t.item used, fits, k.same_length, k.going.between.kept.begun)) in
        let b = length_put rs (record_size * count) (words u.item used) (omega (arith, words_size u.item used, fits, k.same_length, k.going.between.kept.begun)) in
        a ∙ k.same_length ∙ sym b ∙ ap length (sym w.records)

    -- one step more
    more : second_steps utf16 s name f (count + 1) g₀ ≡ us ++ (u ∷ [])
    more =
        second_steps_snoc utf16 s name f count g₀
        ∙ ap (λ (g : Utf16State). us ++ (second_step utf16 s name f g ∷ [])) (sym k.state)

    many : length us ≡ count
    many = second_steps_length utf16 s name f count g₀

    records_more : rs' ≡ over (records_of 0 (second_steps utf16 s name f (count + 1) g₀)) rs₀
    records_more =
        let vs = records_of 0 us in
        let i : record_size * count ≡ length vs = omega (arith, records_size 0 us, many) in
        let n : used ≡ 0 + length (payloads_of us) = omega (arith, k.used_is) in
        w.records
        ∙ ap (λ (l : List ℕ). put l (record_size * count) (words u.item used)) k.records
        ∙ ap₂ (λ (i n : ℕ). put (over vs rs₀) i (words u.item n)) i n
        ∙ write_more vs (words u.item (0 + length (payloads_of us))) rs₀
        ∙ ap (λ (l : List ℕ). over l rs₀) (sym (records_snoc 0 us u) ∙ ap (records_of 0) (sym more))

    used_more : used' ≡ length (payloads_of (second_steps utf16 s name f (count + 1) g₀))
    unfolding second_step
    used_more =
        let e : used' ≡ used + length t.payload = ap (λ (a : Writing). a.used) wrote.is in
        let l = ap length (ap payloads_of more ∙ payloads_snoc us u) ∙ length-append (payloads_of us) u.payload in
        omega (arith, e, l, k.used_is)

    pub utf16_goes_on : Utf16Going s name f g₀ rs₀ ps₀ next (count + 1) used' rs' ps' × (left s next.state.first < left s at.state.first)
    utf16_goes_on = (
      record {
        shadow = put k.shadow (record_size * count) (words t.item used);
        going = first_on.0;
        same_length = lengths;
        stands = rw w.state (second_next_stands s name f at.state k.stands wrote.going);
        tallied = w.tallied;
        state = w.state ∙ ap (second_next utf16 s name f) k.state ∙ sym (second_after_snoc utf16 s name f count g₀);
        records = records_more;
        used_is = used_more;
      },
      first_on.1,
    )
