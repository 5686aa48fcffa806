-- One turn of `comment`, a law for each of its cases. Rests on the definition of `comment_turn`, and on the laws of sound states.
use Rattle.std.specs.Prelude.{Some}
use Prim.Native.Nat.{ℕ, ◌+◌, ◌≤◌, ◌<◌}
use mathlib.Core.Path.{◌≡◌, refl, ◌∙◌}
use mathlib.Core.Bool.{true, false, ◌&&◌}
use native.Mathlib.Omega.{arith}
use lib.Dec.{ltb}
use lib.ListN.{length}
use borrow.Author.Tests.{lt-ltb, le-ltb, le-leb, lt-leb}
use Rattle.definition.specs.Basics.{Bytes, Turn, ch, again, done}
use Rattle.definition.specs.Text.{byte_is, star, run_end, after}
use Rattle.definition.specs.Matchers.{match_newline}
use Rattle.definition.specs.State.{deeper}
use Rattle.definition.specs.Item.{Step}
use Rattle.definition.specs.Comment.{comment_stop, terminate, comment_turn}
use Rattle.definition.specs.declared.State.{State}
use Rattle.laws_progress.proofs.Walks.{Onward, walk_within, star_walks}
use Rattle.laws_progress.proofs.Scans.{after_walks, two_onward}
use Rattle.star.specs.Stops.{goes_on}
use Rattle.laws_run.proofs.Moving.{walk_stands}
use Rattle.reader.specs.Described.{KnownAt}
use Rattle.reader.specs.Cursors.{moved, next_line}
use Rattle.reader.specs.declared.Cursor.{Cursor}
use Rattle.reader.specs.declared.Read.{Read}
use Rattle.reader.specs.declared.ReadResult.TheVariants.{Done, Again}
use Rattle.reader.proofs.Standing.{known_line, known_kept}
use Rattle.read_comment.specs.LineCommentContracts.{ReadsAny}
use Rattle.read_comment.specs.CommentContracts.{InComment, AtStop, AtMark, Ending, TurnsAny}
use Rattle.read_comment.proofs.Small.{small}

-- ---- what a turn gives

-- It goes on at a place whose column is known.
turns_again : {s : Bytes} (t : Turn State Step) (p : Cursor) → t ≡ again p.st → KnownAt s p.st p.known → TurnsAny s t (Again p)
turns_again t p e k name f = rw e (refl, k)

-- Or it has read what the definition's turn answers.
turns_done : {s : Bytes} (t : Turn State Step) {u : Step} {r : Read} → t ≡ done u → ReadsAny s u r → TurnsAny s t (Done r)
turns_done t e h name f = rw e (h name f)

-- ---- where a run may stand

-- The code's run is the definition's.
comment_run : (s : Bytes) (i : ℕ) → star (goes_on (ch "(") (ch "*")) s i ≡ run_end comment_stop s i
unfolding comment_stop
comment_run s i = refl

module _ {s : Bytes} {at : Cursor} (h : InComment s at) {j : ℕ} (e : j ≡ star (goes_on (ch "(") (ch "*")) s at.st.offset) where
  -- It ends within the text.
  pub run_within : j ≤ length s
  run_within = omega (arith, walk_within (star_walks (goes_on (ch "(") (ch "*")) s at.st.offset) (small h.standing.stands).within)

  -- It is passed.
  pub turns_run : (from : ℕ) {p : Cursor} → at.st.offset < j → p ≡ moved at j → TurnsAny s (comment_turn s from at.st) (Again p)
  turns_run from l q =
      let r : j ≡ run_end comment_stop s at.st.offset = e ∙ comment_run s at.st.offset in
      let t : ltb at.st.offset (run_end comment_stop s at.st.offset) ≡ true = lt-ltb _ _ (rw r at l) in
      rw q (turns_again (comment_turn s from at.st) (moved at j) (rw r (simp (t, comment_turn))) (known_kept at.st _ refl refl h.standing.cached))

  -- Where there is none, another of the turn's cases holds.
  pub stops : j ≤ at.st.offset → AtStop s at
  stops l = record { inside = h; stop = rw (e ∙ comment_run s at.st.offset) at l }

-- ---- where none stands

module _ {s : Bytes} {at : Cursor} (h : AtStop s at) where
  none : ltb at.st.offset (run_end comment_stop s at.st.offset) ≡ false
  none = le-ltb _ _ h.stop

  -- A level is opened.
  pub turns_open : (from : ℕ) {p : Cursor} {b : State} → byte_is (ch "(") s at.st.offset && byte_is (ch "*") s (at.st.offset + 1) ≡ true
      → p ≡ moved at (at.st.offset + 2) → b ≡ deeper p.st → TurnsAny s (comment_turn s from at.st) (Again (record { st = b; known = p.known }))
  turns_open from t p q =
      rw (q, p)
      (turns_again (comment_turn s from at.st) _ (simp (none, t, comment_turn)) (known_kept at.st _ refl refl h.inside.standing.cached))

  -- A line ends.
  pub turns_line : (from : ℕ) {nl : ℕ} {p : Cursor} → byte_is (ch "(") s at.st.offset && byte_is (ch "*") s (at.st.offset + 1) ≡ false
      → match_newline s at.st.offset ≡ Some nl → p ≡ next_line at nl → TurnsAny s (comment_turn s from at.st) (Again p)
  turns_line from {nl} shut t p =
      rw p (turns_again (comment_turn s from at.st) (next_line at nl) (simp (none, shut, t, comment_turn)) (known_line s at.st nl))

-- ---- where nothing is opened and no line ends

module _ {s : Bytes} {at : Cursor} (h : AtMark s at) where
  -- The two bytes of a closing lie within the text.
  closing : byte_is (ch "*") s at.st.offset && byte_is (ch ")") s (at.st.offset + 1) ≡ true → Onward s at.st.offset (at.st.offset + 2)
  closing t = two_onward s (ch "*") (ch ")") at.st.offset (omega arith) (omega arith) t

  -- After them the piece has ended.
  pub closed_ending : {p : Cursor} → byte_is (ch "*") s at.st.offset && byte_is (ch ")") s (at.st.offset + 1) ≡ true
      → p ≡ moved at (at.st.offset + 2) → Ending s at.st.offset p
  closed_ending t e =
      let g = h.stopped.inside.standing in
      rw e record {
        standing = record { stands = walk_stands g.stands (closing t).walk; cached = known_kept at.st _ refl refl g.cached };
        within = (small g.stands).within;
      }

  -- At the text's end it has too.
  pub over_ending : Ending s at.st.offset at
  over_ending = let g = h.stopped.inside.standing in record { standing = g; within = (small g.stands).within }

  module _ (from : ℕ) where
    -- A level is closed.
    pub turns_closed : {p : Cursor} {r : Read} → byte_is (ch "*") s at.st.offset && byte_is (ch ")") s (at.st.offset + 1) ≡ true
        → p ≡ moved at (at.st.offset + 2) → ReadsAny s (terminate s from at.st.offset true p.st) r → TurnsAny s (comment_turn s from at.st) (Done r)
    turns_closed t e k =
        let n = none h.stopped in
        let shut = h.shut in
        let line = h.line in
        turns_done (comment_turn s from at.st) (simp (n, shut, line, t, comment_turn)) (rw e at k)

    module _ (close : byte_is (ch "*") s at.st.offset && byte_is (ch ")") s (at.st.offset + 1) ≡ false) where
      -- The text ends.
      pub turns_over : {r : Read} → length s ≤ at.st.offset → ReadsAny s (terminate s from at.st.offset false at.st) r
          → TurnsAny s (comment_turn s from at.st) (Done r)
      turns_over k reads =
          let n = none h.stopped in
          let shut = h.shut in
          let line = h.line in
          let t = le-leb _ _ k in
          turns_done (comment_turn s from at.st) (simp (n, shut, line, close, t, comment_turn)) reads

      -- A character is passed.
      pub turns_after : {k : ℕ} {p : Cursor} → at.st.offset < length s → k ≡ after s at.st.offset → p ≡ moved at k
          → TurnsAny s (comment_turn s from at.st) (Again p)
      turns_after {k} {p} m a e =
          let n = none h.stopped in
          let shut = h.shut in
          let line = h.line in
          let t = lt-leb _ _ m in
          rw (e, a)
          (turns_again (comment_turn s from at.st) (moved at (after s at.st.offset)) (simp (n, shut, line, close, t, comment_turn))
          (known_kept at.st _ refl refl h.stopped.inside.standing.cached))

  -- It ends within the text.
  pub after_within : {k : ℕ} → k ≡ after s at.st.offset → k ≤ length s
  after_within e = omega (arith, walk_within (after_walks s at.st.offset) (small h.stopped.inside.standing.stands).within)
