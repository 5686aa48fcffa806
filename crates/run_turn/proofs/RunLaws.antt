-- A run, turn by turn: what holds between two items holds after the next, and what is still to come gives what the whole gives. Rests
-- on the laws of sound states, of payloads and of the items' number.
use Prim.Native.Nat.{ℕ, ◌+◌, ◌-◌, ◌*◌, ◌≤◌, ◌<◌}
use mathlib.Core.Path.{◌≡◌, sym, ap, subst, ◌∙◌}
use mathlib.Core.List.{List}
use native.Mathlib.Omega.{arith}
use borrow.Author.Tests.{eqb-false}
use lib.Dec.{eqb}
use lib.ListN.{length}
use Rattle.definition.specs.Basics.{Bytes, Turn, done}
use Rattle.definition.specs.Position.{count_chars, col_by}
use Rattle.definition.specs.Item.{record_size, words}
use Rattle.definition.specs.Token.{step}
use Rattle.definition.specs.Run.{put, Outcome, Writing, written, run_turn, run_items}
use Rattle.definition.specs.declared.State.{State}
use Rattle.lemmas.proofs.Cases.{by_test, by_lt}
use Rattle.lemmas.proofs.Loops.{says, Leads, Any}
use Rattle.lemmas.proofs.Tails.{length_put}
use Rattle.laws_run.specs.Left.{left}
use Rattle.laws_run.proofs.FormLaws.{awake_small}
use Rattle.laws_run.specs.Going.{run_from}
use Rattle.laws_run.proofs.RunFuel.{run_unroll, run_is}
use Rattle.laws_run.proofs.Moving.{stands_within}
use Rattle.laws_run.proofs.Steps.{step_stands, payload_bound, budget_small}
use Rattle.laws_run.specs.Accepted.{Accepted}
use Rattle.reader.specs.declared.Cursor.{Cursor}
use Rattle.reader.specs.Described.{KnownAt}
use Rattle.laws_run.proofs.Items.{step_left}
use Rattle.laws_run.proofs.Buffers.{words_size}
use Rattle.run_turn.specs.declared.TurnResult.TheVariants.{Wrote}
use Rattle.run_turn.specs.Running.{writing, answered, Ran, WithinBounds, Between, Going}

module _ (s name f : Bytes) (named : length name ≤ 4096) where
  -- an item that was written leaves what was kept
  written_keeps : (a : Writing) → WithinBounds s a → (a.state.mode ≡ 2 → ⊥) → record_size ≤ length a.records - record_size * a.count
      → length (step s name f a.state).payload ≤ length a.payload - a.used
      → WithinBounds s (written a (step s name f a.state)) × (left s (step s name f a.state).next < left s a.state)
  written_keeps a k n room fits =
      let t = step s name f a.state in
      let w : length (words t.item a.used) ≡ record_size = words_size t.item a.used in
      let l = step_left s name f a.state k.stands.sound.opened n in
      let rs : length (put a.records (record_size * a.count) (words t.item a.used)) ≡ length a.records =
      length_put a.records (record_size * a.count) (words t.item a.used) (omega (arith, k.begun)) in
      let ps : length (put a.payload a.used t.payload) ≡ length a.payload =
      length_put a.payload a.used t.payload (omega (arith, k.filled)) in (
        record {
          stands = step_stands s name f a.state k.stands n;
          begun = omega (arith, rs, k.begun);
          filled = omega (arith, ps, k.filled);
          spent = omega (arith, k.spent, payload_bound s name f named a.state k.stands n);
          few = omega (arith, k.few, l.1);
        },
        l.1,
      )

  -- so does every turn
  turn_keeps : (a : Writing) → WithinBounds s a → Leads (λ b. WithinBounds s b × (left s b.state < left s a.state)) Any (run_turn s name f a)
  unfolding run_turn
  turn_keeps a k =
      by_test L (eqb a.state.mode 2) (λ _. tt) λ m.
      by_lt L (length a.records - record_size * a.count) record_size (λ _. tt) λ room.
      by_lt L (length a.payload - a.used) (length (step s name f a.state).payload) (λ _. tt) λ fits.
      written_keeps a k (eqb-false a.state.mode 2 m) room fits
    where
      L : Turn Writing Outcome → Type 0
      L = Leads (λ b. WithinBounds s b × (left s b.state < left s a.state)) Any

-- ---- the loop

-- a column is known where a line begins
begins : (s : Bytes) (st : State) → KnownAt s st (record { off = st.bol; col = st.column })
unfolding count_chars col_by
begins s st =
    let z : st.bol - st.bol ≡ 0 = omega arith in
    record { after = omega arith; column = rw z (omega arith) }

-- where a run that is not refused begins
pub going_starts : (s name f : Bytes) (st : State) (rs : List ℕ) (ps : Bytes) → Accepted s name f st
    → Going s name f st rs ps (record { st = st; known = record { off = st.bol; col = st.column } }) 0 0 rs ps
going_starts s name f st rs ps h = record {
  between = record {
    accepted = h.classes;
    named = h.named;
    kept = record {
      stands = h.stands;
      begun = omega arith;
      filled = omega arith;
      spent = omega (arith, budget_small s st h.stands);
      few = omega (arith, h.stands.short, stands_within h.stands, h.stands.sound.comments, awake_small st.mode);
    };
    cached = begins s st;
  };
  same = sym (run_is s name f st rs ps);
}

-- where a run stands between two items any name that is short enough will do
pub between_any : {s name f : Bytes} {at : Cursor} {count used : ℕ} {rs : List ℕ} {ps : Bytes} → Between s name f at count used rs ps
    → (other : Bytes) → length other ≤ 4096 → Between s other f at count used rs ps
between_any b other named = record { accepted = b.accepted; named = named; kept = b.kept; cached = b.cached }

-- after an item that was written a run stands between two items again, with less to read
pub between_on : {s name f : Bytes} {at : Cursor} {count used : ℕ} {rs : List ℕ} {ps : Bytes} → Between s name f at count used rs ps
    → (next : Cursor) (used' : ℕ) (rs' : List ℕ) (ps' : Bytes)
    → Ran s (run_turn s name f (writing at count used rs ps)) count at.st (Wrote next used') rs' ps'
    → Between s name f next (count + 1) used' rs' ps' × (left s next.st < left s at.st)
between_on {s} {name} {f} {at} {count} {used} {rs} {ps} b next used' rs' ps' e =
    let k : WithinBounds s (writing next (count + 1) used' rs' ps') × (left s next.st < left s at.st) =
    subst (Leads (λ b. WithinBounds s b × (left s b.state < left s at.st)) Any) e.0 (turn_keeps s name f b.named (writing at count used rs ps) b.kept) in
    (record { accepted = b.accepted; named = b.named; kept = k.0; cached = e.1 }, k.1)

-- and what is still to come is what was to come before it
unrolled : {s name f : Bytes} {at : Cursor} {count used : ℕ} {rs : List ℕ} {ps : Bytes} → Between s name f at count used rs ps
    → run_from s name f (writing at count used rs ps) ≡ says (run_turn s name f (writing at count used rs ps)) (run_from s name f)
unrolled {s} {name} {f} {at} {count} {used} {rs} {ps} b = run_unroll s name f (writing at count used rs ps) b.kept.stands.sound.opened

pub ran_same : {s name f : Bytes} {at : Cursor} {count used : ℕ} {rs : List ℕ} {ps : Bytes} → Between s name f at count used rs ps
    → (next : Cursor) (used' : ℕ) (rs' : List ℕ) (ps' : Bytes)
    → Ran s (run_turn s name f (writing at count used rs ps)) count at.st (Wrote next used') rs' ps'
    → run_from s name f (writing next (count + 1) used' rs' ps') ≡ run_from s name f (writing at count used rs ps)
ran_same {s} {name} {f} b next used' rs' ps' e = ap (λ (t : Turn Writing Outcome). says t (run_from s name f)) (sym e.0) ∙ sym (unrolled b)

module _ {s name f : Bytes} {st : State} {rs₀ : List ℕ} {ps₀ : Bytes} {at : Cursor} {count used : ℕ} {rs : List ℕ} {ps : Bytes}
    (g : Going s name f st rs₀ ps₀ at count used rs ps) where
  -- a turn that stops answers for the whole
  pub going_stops : (stop : ℕ) (rs' : List ℕ) (ps' : Bytes)
      → run_turn s name f (writing at count used rs ps) ≡ done (answered stop count at.st, rs', ps')
      → ◌≡◌ {A = Outcome} (answered stop count at.st, rs', ps') (run_items s name f st rs₀ ps₀)
  going_stops stop rs' ps' e =
      ap (λ (t : Turn Writing Outcome). says t (run_from s name f)) (sym e) ∙ sym (unrolled g.between) ∙ g.same

  -- a turn that wrote an item goes on
  pub going_on : (next : Cursor) (used' : ℕ) (rs' : List ℕ) (ps' : Bytes)
      → Ran s (run_turn s name f (writing at count used rs ps)) count at.st (Wrote next used') rs' ps'
      → Going s name f st rs₀ ps₀ next (count + 1) used' rs' ps' × (left s next.st < left s at.st)
  going_on next used' rs' ps' e =
      let b = between_on g.between next used' rs' ps' e in
      (record { between = b.0; same = ran_same g.between next used' rs' ps' e ∙ g.same }, b.1)

  -- a run that stands elsewhere, with as much to come, goes on there
  pub going_from : {there : Cursor} {count' used' : ℕ} {rs' : List ℕ} {ps' : Bytes} → Between s name f there count' used' rs' ps'
      → run_from s name f (writing there count' used' rs' ps') ≡ run_from s name f (writing at count used rs ps)
      → Going s name f st rs₀ ps₀ there count' used' rs' ps'
  going_from b e = record { between = b; same = e ∙ g.same }
