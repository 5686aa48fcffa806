-- A turn does what stands at the state's offset asks for, and the state after it is sound. Rests on the definition, and on the
-- laws of sound states and of where a reader stands.
use Prim.Native.Nat.{ℕ, ◌+◌, ◌-◌, ◌≤◌, ◌<◌}
use mathlib.Core.Path.{◌≡◌, refl, sym, ap, subst, ◌∙◌}
use mathlib.Core.Bool.{Bool, true, false}
use native.Mathlib.Omega.{arith}
use lib.Dec.{ltb, leb}
use lib.ListN.{length}
use Rattle.definition.specs.Basics.{Bytes, Turn}
use Rattle.definition.specs.Tables.{cps}
use Rattle.definition.specs.Chars.{is_newline_char}
use Rattle.definition.specs.Matchers.{match_lit, match_newline}
use Rattle.definition.specs.State.{advance}
use Rattle.definition.specs.Item.{Step}
use Rattle.definition.specs.Text.{run_end}
use Rattle.definition.specs.Blob as source
use Rattle.definition.specs.declared.State.{State}
use Rattle.lemmas.proofs.Cases.{by_found, by_outcome}
use Rattle.lemmas.proofs.Loops.{says, Leads, Any, leads_map, leads_both}
use Rattle.state.specs.Sound.{Stands}
use Rattle.laws_progress.proofs.Walks.{rest}
use Rattle.laws_run.specs.Going.{blob_from, lang_from}
use Rattle.laws_run.proofs.BlobReader.{blob_unroll, blob_is, lang_unroll, lang_is, blob_falls, lang_falls, blob_turn_stands, lang_turn_stands}
use Rattle.laws_run.proofs.Moving.{stands_clean, stands_within}
use Rattle.reader.specs.declared.Cursor.{Cursor}
use Rattle.reader.specs.declared.ReadResult.{ReadResult}
use Rattle.reader.specs.declared.ReadResult.TheVariants.{Done, Again}
use Rattle.reader.specs.Cursors.{moved, next_line}
use Rattle.reader.proofs.Standing.{known_kept, known_line}
use Rattle.reader.proofs.Turning.{turned_done, turned_again}
use Rattle.reader.specs.declared.Read.{Read}
use Rattle.reader.specs.Described.{Reads, Turns}
use Rattle.read_blob.specs.declared.Header.{Header}
use Rattle.read_blob.specs.declared.Move.{Move}
use Rattle.read_blob.specs.declared.Move.TheVariants.{Close, Open, Line, On}
use Rattle.read_blob.specs.Moves.{contents_move, inside_move, blob_move, lang_move, move_at}
use Rattle.read_blob.specs.Contents.{header_of, contents, contents_turn, blob_step, does, InBlob}

module _ (s : Bytes) (from : ℕ) (h : source.Header) (st : State) where
  blob_does : source.blob_turn s from h st ≡ does s false from h st (blob_move s st.offset)
  unfolding blob_move inside_move contents_move
  blob_does =
      by_found (match_lit s (cps "```") st.offset) (λ e q. rw (source.blob_turn, blob_move, q)) λ q.
      by_outcome (leb (length s) st.offset) (λ t. rw (source.blob_turn, blob_move, q, inside_move, t)) λ t.
      by_found (match_newline s st.offset) (λ nl e. rw (source.blob_turn, blob_move, q, inside_move, t, e)) (λ e. rw (source.blob_turn, blob_move, q, inside_move, t, e))

  lang_does : source.lang_turn s from h st ≡ does s true from h st (lang_move s st.offset)
  unfolding lang_move
  lang_does =
      by_outcome (leb (length s) st.offset) (λ t. rw (source.lang_turn, lang_move, t)) λ t.
      by_outcome (ltb st.offset (run_end is_newline_char s st.offset)) (λ u. rw (source.lang_turn, lang_move, t, u)) λ u.
      by_found (match_newline s st.offset) (λ nl e. rw (source.lang_turn, lang_move, t, u, e)) (λ e. rw (source.lang_turn, lang_move, t, u, e))

  pub turn_does : (lang : Bool) → contents_turn s lang from h st ≡ does s lang from h st (move_at s lang st.offset)
  turn_does true = lang_does
  turn_does false = blob_does

  turn_stands : (lang : Bool) → Stands s st → st.mode ≡ 0
      → Leads (λ b. Stands s b × (b.mode ≡ 0)) (λ t. Stands s t.next) (contents_turn s lang from h st)
  turn_stands true k m = lang_turn_stands s from h st k m
  turn_stands false k m = blob_turn_stands s from h st k m

  -- each turn reads something
  turn_falls : (lang : Bool) → Stands s st → Leads (λ b. rest s b.offset < rest s st.offset) Any (contents_turn s lang from h st)
  turn_falls true k = leads_map (λ b l. l.1) (λ t _. tt) (contents_turn s true from h st) ((lang_falls s from h).at st tt)
  turn_falls false k = leads_map (λ b l. l.1) (λ t _. tt) (contents_turn s false from h st) ((blob_falls s from h).at st (stands_clean k))

  pub turn_leads : (lang : Bool) → Stands s st → st.mode ≡ 0
      → Leads (λ b. (Stands s b × (b.mode ≡ 0)) × (rest s b.offset < rest s st.offset)) Any (contents_turn s lang from h st)
  turn_leads lang k m =
      leads_both (λ b. Stands s b × (b.mode ≡ 0)) (λ b. rest s b.offset < rest s st.offset) (λ t. Stands s t.next) Any
      (contents_turn s lang from h st) (turn_stands lang k m) (turn_falls lang k)

  -- where what stands there leads
  pub move_stands : (lang : Bool) (m : Move) → Stands s st → st.mode ≡ 0 → move_at s lang st.offset ≡ m
      → Leads (λ b. Stands s b × (b.mode ≡ 0)) (λ t. Stands s t.next) (does s lang from h st m)
  move_stands lang m k z e =
      subst (Leads (λ b. Stands s b × (b.mode ≡ 0)) (λ t. Stands s t.next))
      (turn_does lang ∙ ap (does s lang from h st) e) (turn_stands lang k z)

  -- what is made of what stands there is what the turn is
  pub move_turns : (name f : Bytes) (lang : Bool) (m : Move) (r : ReadResult) → move_at s lang st.offset ≡ m
      → Turns s name f (does s lang from h st m) r → Turns s name f (contents_turn s lang from h st) r
  move_turns name f lang m r e k =
      subst (λ (t : Turn State Step). Turns s name f t r) (sym (turn_does lang ∙ ap (does s lang from h st) e)) k

-- ---- the loop

-- the definition's loop, from where a reader stands
abbrev pub contents_from : Bytes → Bool → ℕ → source.Header → State → Step
contents_from s true from h st = lang_from s from h st
contents_from s false from h st = blob_from s from h st

-- it begins where the contents do
pub contents_is : (s : Bytes) (lang : Bool) (h : source.Header) (st : State) → contents s lang h st ≡ contents_from s lang st.offset h st
contents_is s true h st = lang_is s h st
contents_is s false h st = blob_is s h st

-- and is what its first turn says
pub contents_unroll : (s : Bytes) (lang : Bool) (from : ℕ) (h : source.Header) (st : State) → Stands s st
    → contents_from s lang from h st ≡ says (contents_turn s lang from h st) (contents_from s lang from h)
contents_unroll s true from h st k = lang_unroll s from h st
contents_unroll s false from h st k = blob_unroll s from h st (stands_clean k)

-- ---- what a turn asks for and answers

module _ (s : Bytes) (header : Header) (from : ℕ) (at : Cursor) (h : InBlob s header from at) (lang : Bool) where
  leads : (m : Move) → move_at s lang at.st.offset ≡ m
      → Leads (λ b. Stands s b × (b.mode ≡ 0)) (λ t. Stands s t.next) (does s lang from (header_of s header) at.st m)
  leads m e = move_stands s from (header_of s header) at.st lang m h.standing.stands h.between e

  -- after the end reading stands
  pub close_stands : (e : ℕ) → move_at s lang at.st.offset ≡ Close e → Stands s (advance at.st e)
  close_stands e q = leads (Close e) q

  -- no number of a new line is too large
  pub line_fits : (e : ℕ) → move_at s lang at.st.offset ≡ Line e → (e < 4294967296) × (at.st.line < 4294967295)
  line_fits e q =
      let k = (leads (Line e) q).0 in
      let o : e ≤ length s = stands_within k in
      let l : at.st.line + 1 ≤ 1000000 + e = k.sound.line in
      (omega (arith, k.short), omega (arith, k.short))

  pub on_fits : (e : ℕ) → move_at s lang at.st.offset ≡ On e → e < 4294967296
  on_fits e q =
      let k = (leads (On e) q).0 in
      let o : e ≤ length s = stands_within k in
      omega (arith, k.short)

  -- the blob ends, or is left open
  pub close_turns : (e : ℕ) (r : Read) (name f : Bytes) → move_at s lang at.st.offset ≡ Close e
      → Reads s name f (blob_step s lang from (header_of s header) at.st e) r → Turns s name f (contents_turn s lang from (header_of s header) at.st) (Done r)
  close_turns e r name f q c = move_turns s from (header_of s header) at.st name f lang (Close e) (Done r) q c

  pub open_turns : (r : Read) (name f : Bytes) → move_at s lang at.st.offset ≡ Open
      → Reads s name f (source.unterminated s at.st) r → Turns s name f (contents_turn s lang from (header_of s header) at.st) (Done r)
  open_turns r name f q c = move_turns s from (header_of s header) at.st name f lang Open (Done r) q c

  -- reading goes on, on the same line or on the next
  pub line_turns : (e : ℕ) (p : Cursor) (name f : Bytes) → move_at s lang at.st.offset ≡ Line e → p ≡ next_line at e
      → Turns s name f (contents_turn s lang from (header_of s header) at.st) (Again p)
  line_turns e p name f q c =
      move_turns s from (header_of s header) at.st name f lang (Line e) (Again p) q (rw c (refl, known_line s at.st e))

  pub on_turns : (e : ℕ) (p : Cursor) (name f : Bytes) → move_at s lang at.st.offset ≡ On e → p ≡ moved at e
      → Turns s name f (contents_turn s lang from (header_of s header) at.st) (Again p)
  on_turns e p name f q c =
      move_turns s from (header_of s header) at.st name f lang (On e) (Again p) q
      (rw c (refl, known_kept at.st (advance at.st e) refl refl h.standing.cached))

-- ---- the reader's loop

-- the reader stands in the blob, and what is still to be read gives what the whole gives
pub record Reading (s : Bytes) (header : Header) (lang : Bool) (from : ℕ) (first here : Cursor) : Type 0 where
  pub inside : InBlob s header from here
  pub same : contents_from s lang from (header_of s header) here.st ≡ contents s lang (header_of s header) first.st

pub reading_starts : {s : Bytes} {header : Header} {lang : Bool} {first : Cursor} → InBlob s header first.st.offset first
    → Reading s header lang first.st.offset first first
reading_starts {s} {header} {lang} {first} h = record { inside = h; same = sym (contents_is s lang (header_of s header) first.st) }

module _ {s : Bytes} {header : Header} {lang : Bool} {from : ℕ} {first here : Cursor} where
  module _ (k : Reading s header lang from first here) (name f : Bytes) where
    -- what a turn has read is the whole
    pub reading_ends : (r : Read) → Turns s name f (contents_turn s lang from (header_of s header) here.st) (Done r)
        → Reads s name f (contents s lang (header_of s header) first.st) r
    reading_ends r t =
        let u = contents_unroll s lang from (header_of s header) here.st k.inside.standing.stands in
        subst (λ (x : Step). Reads s name f x r) (sym u ∙ k.same)
        (turned_done s name f (contents_turn s lang from (header_of s header) here.st) (contents_from s lang from (header_of s header)) r t)

    -- a turn that goes on reads something, and stands in the blob again
    pub reading_goes_on : (p : Cursor) → Turns s name f (contents_turn s lang from (header_of s header) here.st) (Again p)
        → Reading s header lang from first p × (length s - p.st.offset < length s - here.st.offset)
    reading_goes_on p t =
        let stands = k.inside.standing.stands in
        let u = contents_unroll s lang from (header_of s header) here.st stands in
        let g = turned_again s name f (λ b. (Stands s b × (b.mode ≡ 0)) × (rest s b.offset < rest s here.st.offset)) Any
        (contents_turn s lang from (header_of s header) here.st) (contents_from s lang from (header_of s header)) p
        (turn_leads s from (header_of s header) here.st lang stands k.inside.between) t in
        let less : rest s p.st.offset < rest s here.st.offset = g.holds.1 in (
          record {
            inside = record {
              standing = record { stands = g.holds.0.0; cached = g.known };
              between = g.holds.0.1;
              begun = omega (arith, k.inside.begun, stands_within g.holds.0.0);
              named = k.inside.named;
            };
            same = sym g.same ∙ sym u ∙ k.same;
          },
          less,
        )
