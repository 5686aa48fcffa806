-- Blobs: one walk over a turn of `blob` and one over a turn of `use_lang`, in which the state goes on by a path. From them that their fuel
-- never runs out, and which form their items have. Rests on paths and forms, and on the ends of matchers and runs (crate `laws_progress`).
use Rattle.std.specs.Prelude.{if◌then◌else◌}
use Prim.Native.Nat.{ℕ, ◌+◌, ◌≤◌, ◌<◌}
use mathlib.Core.Path.{◌≡◌, refl, ◌∙◌}
use mathlib.Core.List.{[]}
use native.Mathlib.Omega.{arith}
use lib.Dec.{ltb}
use lib.ListN.{length}
use Rattle.definition.specs.Basics.{Bytes, Turn, loop, fuel}
use Rattle.definition.specs.Text.{lexeme, run_end, after}
use Rattle.definition.specs.Chars.{is_newline_char}
use Rattle.definition.specs.Tables.{cps}
use Rattle.definition.specs.Matchers.{match_lit, match_newline}
use Rattle.definition.specs.Position.{cur_pos}
use Rattle.definition.specs.State.{advance}
use Rattle.definition.specs.Item.{Step, blob_tok}
use Rattle.definition.specs.Blob.{Header, unterminated, blob_stop, blob_turn, blob, lang_turn, use_lang}
use Rattle.definition.specs.Token.{blob_header}
use Rattle.definition.specs.declared.State.{State}
use Rattle.lemmas.proofs.Loops.{says, Leads, leads_map, Falls, Any, loop_keeps, loop_same, loop_unroll}
use Rattle.lemmas.proofs.Cases.{by_lt, by_le, by_if_lt, by_match}
use Rattle.state.specs.Sound.{Stands}
use Rattle.laws_progress.proofs.Walks.{rest, Walk, Onward, walk_past, star_walks, Clean}
use Rattle.laws_progress.proofs.Matches.{newline_ends}
use Rattle.laws_progress.proofs.Words.{word_onward}
use Rattle.laws_progress.proofs.Scans.{after_walks, after_onward}
use Rattle.laws_run.specs.Going.{blob_from, lang_from}
use Rattle.laws_run.proofs.Moving.{ended_stands}
use Rattle.laws_run.proofs.Sizes.{part_size}
use Rattle.laws_run.proofs.Paths.{Ahead, ahead_here, walk_ahead, Path, stay, on, path_path, path_reads, Goes, goes_on, goes_line, going_falls, path_stands, goes_stands}
use Rattle.laws_run.proofs.Forms.{Form, blob as a_blob, error}

module _ (s : Bytes) (from : ℕ) (h : Header) where
  -- a blob whose contents began at byte `from` ends at st: with a part of the text that closes it, or unterminated
  pub data BlobEnd (st : State) : Step → Type 0 where
    closes : {e : ℕ} (k : ℕ) → Ahead s st.offset e
        → BlobEnd st
        (blob_tok k h.name (lexeme s from st.offset) h.start (cur_pos s st) (cur_pos s (advance st e)) h.pos h.snap (advance st e))
    open_ended : BlobEnd st (unterminated s st)

  -- a turn of `blob`
  blob_leads : (st : State) → Leads (Goes s (Clean s st.offset) st) (BlobEnd st) (blob_turn s from h st)
  blob_leads st =
      by_match L (match_lit s (cps "```") i) (λ e q. closes _ (walk_ahead ((word_onward s "```" refl i).at q).walk)) λ _.
      by_le L (length s) i (λ _. open_ended) λ k.
      by_match L (match_newline s i) (λ nl q. goes_line st ((newline_ends s i).at q)) λ _.
      record {
        path = on n stay (walk_ahead (by_if_lt (Walk s i) i j (λ _. star_walks _ s i) (λ _. after_walks s i)));
        moves = λ c. let o : Onward s i n = by_if_lt (Onward s i) i j (λ l. walk_past (star_walks _ s i) l) (λ _. after_onward s i c k) in omega arith;
      }
    where
      L : Turn State Step → Type 0
      L = Leads (Goes s (Clean s st.offset) st) (BlobEnd st)

      i : ℕ
      i = st.offset

      j : ℕ
      j = run_end blob_stop s i

      n : ℕ
      n = if ltb i j then j else after s i

  -- a turn of `use_lang`
  lang_leads : (st : State) → Leads (Goes s (Any st) st) (BlobEnd st) (lang_turn s from h st)
  lang_leads st =
      by_le L (length s) i (λ _. closes _ ahead_here) λ _.
      by_lt L i (run_end is_newline_char s i) (λ l. goes_on st (walk_past (star_walks _ s i) l)) λ _.
      by_match L (match_newline s i) (λ nl q. goes_line st ((newline_ends s i).at q)) (λ _. open_ended)
    where
      L : Turn State Step → Type 0
      L = Leads (Goes s (Any st) st) (BlobEnd st)

      i : ℕ
      i = st.offset

  -- in a clean text each turn of `blob` reads something, and in any text each turn of `use_lang`
  pub blob_falls : Falls (blob_turn s from h) (λ st. Clean s st.offset) (λ st. rest s st.offset) Any
  blob_falls = going_falls s (λ st. st) (blob_turn s from h) (λ st. Clean s st.offset) BlobEnd (λ st b p. (path_reads p).ahead.clean) blob_leads

  pub lang_falls : Falls (lang_turn s from h) Any (λ st. rest s st.offset) Any
  lang_falls = going_falls s (λ st. st) (lang_turn s from h) Any BlobEnd (λ st b p c. c) lang_leads

  -- from a sound state between comments a turn of either comes to one
  end_stands : {st : State} → Stands s st → st.mode ≡ 0 → (t : Step) → BlobEnd st t → Stands s t.next
  end_stands k m t (closes n a) = path_stands (on _ stay a) k
  end_stands k m t open_ended = ended_stands k m

  pub blob_turn_stands : (st : State) → Stands s st → st.mode ≡ 0
      → Leads (λ b. Stands s b × (b.mode ≡ 0)) (λ t. Stands s t.next) (blob_turn s from h st)
  blob_turn_stands st k m = leads_map (λ b g. let q = goes_stands g k in (q.0, q.1 ∙ m)) (end_stands k m) (blob_turn s from h st) (blob_leads st)

  pub lang_turn_stands : (st : State) → Stands s st → st.mode ≡ 0
      → Leads (λ b. Stands s b × (b.mode ≡ 0)) (λ t. Stands s t.next) (lang_turn s from h st)
  lang_turn_stands st k m = leads_map (λ b g. let q = goes_stands g k in (q.0, q.1 ∙ m)) (end_stands k m) (lang_turn s from h st) (lang_leads st)

  -- more fuel and another `out` change nothing
  pub blob_enough : (out : State → Step) (n : ℕ) (st : State) → Clean s st.offset → rest s st.offset < n → loop (blob_turn s from h) out n st ≡ blob_from s from h st
  unfolding blob_from
  blob_enough out n st c k = loop_same blob_falls out (unterminated s) n (fuel s) st c k (omega arith)

  pub lang_enough : (out : State → Step) (n : ℕ) (st : State) → rest s st.offset < n → loop (lang_turn s from h) out n st ≡ lang_from s from h st
  unfolding lang_from
  lang_enough out n st k = loop_same lang_falls out (unterminated s) n (fuel s) st tt k (omega arith)

  -- each loop is what its first turn says
  pub blob_unroll : (st : State) → Clean s st.offset → blob_from s from h st ≡ says (blob_turn s from h st) (blob_from s from h)
  unfolding blob_from
  blob_unroll st c = loop_unroll blob_falls (unterminated s) (fuel s) st c (omega arith)

  pub lang_unroll : (st : State) → lang_from s from h st ≡ says (lang_turn s from h st) (lang_from s from h)
  unfolding lang_from
  lang_unroll st = loop_unroll lang_falls (unterminated s) (fuel s) st tt (omega arith)

-- contents that began at byte `from`, in a blob that was opened at st, are read as far as a
record Contents (s : Bytes) (from : ℕ) (st a : State) : Type 0 where
  path : Path s st a
  past : st.offset < a.offset
  begun : from ≤ a.offset

contents_on : {s : Bytes} {from : ℕ} {st a b : State} → Contents s from st a → Path s a b → Contents s from st b
contents_on p q =
    let r = path_reads q in
    record { path = path_path p.path q; past = omega (arith, p.past, r.ahead.forward); begun = omega (arith, p.begun, r.ahead.forward) }

begins : {s : Bytes} (st : State) {e : ℕ} → Onward s st.offset e → Contents s e st (advance st e)
begins st {e} o = record { path = on e stay (walk_ahead o.walk); past = o.past; begun = omega arith }

-- the part up to e opens a blob, whose name begins after n bytes of it
module _ {s name : Bytes} {U : Type 0} (n : ℕ) (st : State) {e : ℕ} (o : Onward s st.offset e) where
  contents_end : {a : State} {t : Step} → Contents s e st a → BlobEnd s e (blob_header s st e n) a t → Form s name U st t
  contents_end {a} p (closes k q) =
      a_blob k (lexeme s (st.offset + n) e) (lexeme s e a.offset) (walk_ahead o.walk) p.path q (omega (arith, p.past, q.forward))
      (omega (arith, part_size s (st.offset + n) e, part_size s e a.offset, p.begun, q.forward, o.past))
  contents_end {a} p open_ended = error 2 [] p.path ahead_here (omega arith) (λ n. absurd (omega arith))

  -- A blob.
  pub blob_form : Form s name U st (blob s (blob_header s st e n) (advance st e))
  unfolding blob
  blob_form =
      let h = blob_header s st e n in
      loop_keeps (blob_turn s e h) (Contents s e st) (Form s name U st) (unterminated s)
      (λ a p. leads_map (λ b g. contents_on p g.path) (λ t q. contents_end p q) (blob_turn s e h a) (blob_leads s e h a))
      (λ a p. contents_end p open_ended) (fuel s) (advance st e) (begins st o)

  -- What `use_lang` reads.
  pub lang_form : Form s name U st (use_lang s (blob_header s st e n) (advance st e))
  unfolding use_lang
  lang_form =
      let h = blob_header s st e n in
      loop_keeps (lang_turn s e h) (Contents s e st) (Form s name U st) (unterminated s)
      (λ a p. leads_map (λ b g. contents_on p g.path) (λ t q. contents_end p q) (lang_turn s e h a) (lang_leads s e h a))
      (λ a p. contents_end p open_ended) (fuel s) (advance st e) (begins st o)

-- what both are, by their loops
pub blob_is : (s : Bytes) (h : Header) (st : State) → blob s h st ≡ blob_from s st.offset h st
unfolding blob blob_from
blob_is s h st = refl

pub lang_is : (s : Bytes) (h : Header) (st : State) → use_lang s h st ≡ lang_from s st.offset h st
unfolding use_lang lang_from
lang_is s h st = refl
