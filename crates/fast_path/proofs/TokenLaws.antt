-- What writing a token asks for holds where its action can be carried out, and what was written is the token. Rests on the laws of
-- where a reader stands and of short payloads.
use Rattle.std.specs.Prelude.{Some}
use Prim.Native.Nat.{ℕ, ◌+◌, ◌-◌, ◌≤◌, ◌<◌}
use mathlib.Core.Path.{◌≡◌, refl}
use mathlib.Core.List.{List, []}
use native.Mathlib.Omega.{arith}
use lib.ListN.{length}
use Rattle.definition.specs.Basics.{Bytes}
use Rattle.definition.specs.Position.{one_each}
use Rattle.definition.specs.State.{advance}
use Rattle.definition.specs.Item.{record_size, words}
use Rattle.definition.specs.Token.{TokenTurn}
use Rattle.definition.specs.Run.{put}
use Rattle.definition.specs.declared.State.{State}
use Rattle.laws_run.proofs.Moving.{stands_within}
use Rattle.position.specs.Columns.{Asked, column_at}
use Rattle.position.specs.AsciiRuns.{Plain}
use Rattle.position.specs.declared.columns.AsciiRun.{AsciiRun}
use Rattle.position.specs.declared.columns.Columns.{Columns}
use Rattle.record.specs.Numbers.{plain_item}
use Rattle.reader.specs.declared.Cursor.{Cursor}
use Rattle.reader.specs.declared.Payload.{Payload}
use Rattle.reader.specs.Described.{bytes_of, short_length}
use Rattle.reader.proofs.Short.{short_long}
use Rattle.reader.proofs.Standing.{asks}
use Rattle.reader.specs.Actions.{Fits, Rules}
use Rattle.reader.specs.declared.actions.Action.{Action}
use Rattle.reader.specs.declared.actions.Action.TheVariants.{Token, Error, LineComment}
use Rattle.fast_path.specs.Puts.{PairFits, Writes, TokenAsks, ActionAsks, Written}

-- ---- what writing asks for

-- what an action that can be carried out asks for
action_asked : (s : Bytes) (here : Cursor) (x : Action) {first used : ℕ} {plain : AsciiRun} {rs : List ℕ} {ps : Bytes} → Fits s [] here x
    → Writes s first used plain rs ps → ActionAsks s here x first used plain rs ps
action_asked s here (Token k i e p) h w = record { spans = h.0; inside = (h.1 []).inside; writes = w }
action_asked s here (Error n p) h w = tt
action_asked s here LineComment h w = tt

pub action_asks : {s : Bytes} {here : Cursor} {e : ℕ} {t : TokenTurn} {x : Action} {first used : ℕ} {plain : AsciiRun} {rs : List ℕ} {ps : Bytes}
    → Rules s [] here e t x → Writes s first used plain rs ps → ActionAsks s here x first used plain rs ps
action_asks {s} {here} {x = x} r w = action_asked s here x r.fits w

module _ {s : Bytes} {here : Cursor} {i e : ℕ} {p : Payload} {first used : ℕ} {plain : AsciiRun} {rs : List ℕ} {ps : Bytes}
    (h : TokenAsks s here i e p first used plain rs ps) where
  -- the columns of both ends may be asked for
  pub start_asked : Asked one_each s here.st here.known i
  start_asked = asks h.spans.standing i h.spans.from h.spans.within

  pub end_asked : Asked one_each s here.st here.known e
  end_asked = asks h.spans.standing e h.spans.next.sound.order (stands_within h.spans.next)

  -- no offset of a text is too large
  pub end_small : e < 4294967296
  end_small = let w : e ≤ length s = stands_within h.spans.next in omega (arith, h.spans.next.short)

  -- what fits fits
  pub pair_fits : {size : ℕ} → short_length p ≡ Some size → record_size ≤ length rs - first → size ≤ length ps - used → PairFits s p size first used rs ps
  pair_fits {size} q room fits =
      let n = short_long [] p size q in
      record {
        short = q;
        inside = h.inside;
        begun = h.writes.begun;
        record_room = room;
        filled = h.writes.filled;
        payload_room = fits;
        small = omega (arith, n, h.spans.sized.small);
        little = h.writes.little;
      }

-- ---- a token that was written

-- what was written is the token
pub token_written : {s : Bytes} {here : Cursor} {i e : ℕ} {p : Payload} {first used size : ℕ} {rs : List ℕ} {ps : Bytes} (k : ℕ) (cols : Columns) (next : State)
    (known : AsciiRun) (rs' : List ℕ) (ps' : Bytes)
    → short_length p ≡ Some size → record_size ≤ length rs - first → size ≤ length ps - used
    → (cols.start ≡ (column_at one_each s here.st i).col) × (cols.end ≡ (column_at one_each s here.st e).col) → next ≡ advance here.st e
    → (rs' ≡ put rs first (words (plain_item k (record { line = here.st.line; col = cols.start }) (record { line = here.st.line; col = cols.end }) size here.st.comments here.st.offset e) used))
    × ((name f : Bytes) → ps' ≡ put ps used (bytes_of s name f p))
    → Plain s known
    → Written s here k i e p first used rs ps (record { st = next; known = record { off = e; col = cols.end } }) (used + size) known rs' ps'
token_written {s} {here} {i} {e} {size = size} k cols next known rs' ps' q room fits cs n w plain = record {
  size = size;
  short = q;
  record_room = room;
  payload_room = fits;
  after = rw (n, cs.1);
  spent = refl;
  records = rw (← cs.0, ← cs.1) w.0;
  payload = w.1;
  plain = plain;
}
