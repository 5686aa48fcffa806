-- One turn of a run, from what the code found: each way that the definition's turn can go. Rests on the laws of buffers that are
-- lent, and on what it is to read a step.
use Prim.Native.Nat.{ℕ, ◌+◌, ◌-◌, ◌*◌, ◌≤◌, ◌<◌}
use mathlib.Core.Path.{◌≡◌, refl, sym, ap, subst, ◌∙◌}
use mathlib.Core.List.{List}
use native.Mathlib.Omega.{arith}
use borrow.Author.Tests.{lt-ltb, le-ltb, eq-eqb, ne_eqb}
use lib.ListN.{length}
use Rattle.definition.specs.Basics.{Bytes, again, done}
use Rattle.definition.specs.Item.{Step, record_size, words}
use Rattle.definition.specs.Token.{step}
use Rattle.definition.specs.Run.{put, Writing, stopped, written, run_turn}
use Rattle.definition.specs.declared.State.{State}
use Rattle.reader.specs.declared.Cursor.{Cursor}
use Rattle.reader.specs.declared.Read.{Read}
use Rattle.reader.specs.declared.Payload.{Payload}
use Rattle.reader.specs.declared.Payload.TheVariants.{Part, Text, Greater, Name, Line, FileLine, Literal, Piece, Blob}
use Rattle.reader.specs.Described.{bytes_of, length_of, Listed, Inside, Measurable, Reads, KnownAt}
use Rattle.laws_run.proofs.Steps.{payload_bound, budget_small}
use Rattle.run_turn.specs.declared.TurnResult.TheVariants.{Wrote}
use Rattle.lookahead.specs.Lookahead.{ahead_step}
use Rattle.lookahead.specs.declared.NextItem.{NextItem}
use Rattle.run_turn.specs.Running.{writing, Ran, Between, StandsAhead, ItemFits}

module _ (s name f : Bytes) (a : Writing) where
  -- the reading has ended
  pub turn_ended : a.state.mode ≡ 2 → run_turn s name f a ≡ done (stopped 0 a)
  unfolding run_turn
  turn_ended e = rw (run_turn, eq-eqb a.state.mode 2 e)

  module _ (awake : a.state.mode ≡ 2 → ⊥) where
    -- no room for a record
    pub turn_full : length a.records - record_size * a.count < record_size → run_turn s name f a ≡ done (stopped 1 a)
    unfolding run_turn
    turn_full h = rw (run_turn, ne_eqb a.state.mode 2 awake, lt-ltb (length a.records - record_size * a.count) record_size h)

    module _ (room : record_size ≤ length a.records - record_size * a.count) where
      -- none for the payload
      pub turn_long : length a.payload - a.used < length (step s name f a.state).payload → run_turn s name f a ≡ done (stopped 2 a)
      unfolding run_turn
      turn_long h =
          rw (
            run_turn,
            ne_eqb a.state.mode 2 awake,
            le-ltb (length a.records - record_size * a.count) record_size room,
            lt-ltb (length a.payload - a.used) (length (step s name f a.state).payload) h,
          )

      -- room for both
      pub turn_wrote : length (step s name f a.state).payload ≤ length a.payload - a.used → run_turn s name f a ≡ again (written a (step s name f a.state))
      unfolding run_turn
      turn_wrote h =
          rw (
            run_turn,
            ne_eqb a.state.mode 2 awake,
            le-ltb (length a.records - record_size * a.count) record_size room,
            le-ltb (length a.payload - a.used) (length (step s name f a.state).payload) h,
          )

-- ---- what the code's turn did

-- what stands ahead, read, is the step from where the run stands
pub ahead_reads : {s name f : Bytes} {at here : Cursor} {ahead : NextItem} {r : Read} → StandsAhead s name f at here ahead → (at.st.mode ≡ 2 → ⊥)
    → Reads s name f (ahead_step s name f here.st ahead) r → Reads s name f (step s name f at.st) r
ahead_reads {s} {name} {f} {r = r} a awake d = subst (λ (t : Step). Reads s name f t r) (a.is awake) d

module _ (s name f : Bytes) (at : Cursor) (count used : ℕ) (rs : List ℕ) (ps : Bytes) where
  -- what a step's payload measures
  size_is : (r : Read) (n : ℕ) → Reads s name f (step s name f at.st) r → n ≡ length_of name r.payload → length (step s name f at.st).payload ≡ n
  size_is r n h e = sym (e ∙ h.payload.long)

  module _ (awake : at.st.mode ≡ 2 → ⊥) (room : record_size ≤ length rs - record_size * count) (r : Read) (h : Reads s name f (step s name f at.st) r)
      (n : ℕ) (e : n ≡ length_of name r.payload) where
    pub long_ran : length ps - used < n → run_turn s name f (writing at count used rs ps) ≡ done (stopped 2 (writing at count used rs ps))
    long_ran k = turn_long s name f (writing at count used rs ps) awake room (rw (size_is r n h e) k)

    pub wrote_ran : (rs' : List ℕ) (ps' : Bytes) → n ≤ length ps - used → rs' ≡ put rs (record_size * count) (words r.item used)
        → ps' ≡ put ps used (bytes_of s name f r.payload)
        → Ran s (run_turn s name f (writing at count used rs ps)) count at.st (Wrote (record { st = r.next; known = r.known }) (used + n)) rs' ps'
    wrote_ran rs' ps' k p q =
        let z = size_is r n h e in
        let w = turn_wrote s name f (writing at count used rs ps) awake room (rw z k) in (
          w ∙ rw (p, q, z, h.next, h.item, h.payload.is) refl,
          subst (λ (st : State). KnownAt s st r.known) (sym h.next) h.known,
        )

-- ---- what the code's turn asks for

-- a text of the table is one of it
inside_listed : (s : Bytes) (p : Payload) → Inside s p → Listed p
inside_listed s (Part from to) h = tt
inside_listed s (Text k) h = h
inside_listed s (Greater from to) h = tt
inside_listed s Name h = tt
inside_listed s (Line n) h = tt
inside_listed s (FileLine n) h = tt
inside_listed s (Literal from n) h = tt
inside_listed s (Piece from to width n) h = tt
inside_listed s (Blob from to contents end) h = tt

module _ {s name f : Bytes} {at : Cursor} {count used : ℕ} {rs : List ℕ} {ps : Bytes} {r : Read} (b : Between s name f at count used rs ps)
    (awake : at.st.mode ≡ 2 → ⊥) (h : Reads s name f (step s name f at.st) r) where
  -- a payload's length is far below 2^32
  pub size_small : length_of name r.payload ≤ 421527552
  size_small =
      omega (arith, h.payload.long, payload_bound s name f b.named at.st b.kept.stands awake, budget_small s at.st b.kept.stands)

  pub measurable : Measurable name r.payload
  measurable = record { listed = inside_listed s r.payload h.payload.inside; small = omega (arith, size_small) }

  -- an item for which there is room fits
  pub item_fits : {n : ℕ} → record_size ≤ length rs - record_size * count → n ≡ length_of name r.payload → n ≤ length ps - used
      → ItemFits s name f r (record_size * count) used rs ps
  item_fits {n} room e fits = record {
    accepted = b.accepted;
    long = h.payload.long ∙ ap length (sym h.payload.is);
    inside = h.payload.inside;
    begun = b.kept.begun;
    record_room = room;
    filled = b.kept.filled;
    payload_room = rw (← e) fits;
    small = omega (arith, b.kept.spent);
  }
