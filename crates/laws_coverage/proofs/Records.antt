-- The records that runs write have the spans of what the reading takes, however the runs are split; so document 02's K4 holds of them.
-- Rests on the law of coverage (Law) and on the laws of split runs (crate `laws_run`, Laws).
use Prim.Native.Nat.{ℕ, ◌+◌, ◌<◌}
use mathlib.Core.Path.{◌≡◌, refl, sym, ap, ap₂, subst, ◌∙◌}
use mathlib.Core.List.{List, [], ◌∷◌, ◌++◌, map, map-append}
use mathlib.Core.Logic.{⊎_elim, ⊎_map}
use native.Mathlib.Omega.{arith}
use lib.ListN.{length, get_or}
use Rattle.definition.specs.Basics.{Bytes}
use Rattle.definition.specs.Kinds.{kind_names, number_from, kind}
use Rattle.definition.specs.Item.{Step}
use Rattle.definition.specs.Run.{refusal}
use Rattle.definition.specs.Items.{Told, told, steps_of, items_of}
use Rattle.definition.specs.declared.State.{State}
use Rattle.laws_run.specs.Split.{Split}
use Rattle.laws_run.proofs.ItemSpans.{last_words}
use Rattle.laws_run.proofs.Items.{steps_of_end}
use Rattle.laws_run.proofs.Laws.{split_items, split_taken, split_whole}
use Rattle.laws_coverage.specs.Coverage.{Taking, skipped, gave, takings, Part, steps_in, span, spans_in, skips_in, in_part, held, limit, Forward, Last}
use Rattle.laws_coverage.specs.Records.{told_span, told_spans, last_kind, counted, Covered}
use Rattle.laws_coverage.proofs.Counting.{inside}
use Rattle.laws_coverage.proofs.Law.{run_lossless}

-- ---- the span in an item's record

told_span_is : (t : Step) → told_span (told t) ≡ span t
told_span_is t = let w = last_words t.item 0 in ap₂ (λ (i j : ℕ). (i, j)) w.0 w.1

told_spans_are : (ts : List Step) → told_spans (map told ts) ≡ map span ts
told_spans_are [] = refl
told_spans_are (t ∷ ts) = ap₂ (λ (p : Part) (ps : List Part). p ∷ ps) (told_span_is t) (told_spans_are ts)

-- ---- the last item

steps_last : (before : List Taking) (at : ℕ) (t : Step) → steps_in (before ++ (gave at t ∷ [])) ≡ steps_in before ++ (t ∷ [])
unfolding steps_in
steps_last [] at t = refl
steps_last (skipped place from to ∷ ts) at t = steps_last ts at t
steps_last (gave i u ∷ ts) at t = ap (λ (us : List Step). u ∷ us) (steps_last ts at t)

-- its kind
last_kind_is : (k : ℕ) (before : List Told) (x : Told) → last_kind k (before ++ (x ∷ [])) ≡ get_or x.0 1 0
last_kind_is k [] x = refl
last_kind_is k (y ∷ l) x = last_kind_is (get_or y.0 1 0) l x

-- three kinds of an item that differ: a comment's, EOF's and ERROR's
eof_kind : (kind "EOF" ≡ 0 → ⊥) × (kind "EOF" ≡ kind "ERROR" → ⊥)
unfolding kind kind_names number_from
eof_kind = ((λ e. absurd (omega arith)), (λ e. absurd (omega arith)))

error_kind : kind "ERROR" ≡ 0 → ⊥
unfolding kind kind_names number_from
error_kind e = absurd (omega arith)

module _ (s name f : Bytes) where
  -- The spans of what the reading takes are those in the records that runs wrote, and then those of the state that the last handed back.
  pub split_spans : {g e : State} {l : List Told} → (refusal s name f g).0 ≡ 0 → Split s name f g l e
      → spans_in (takings s name f g) ≡ told_spans l ++ spans_in (takings s name f e)
  split_spans {g} {e} {l} taken w =
      ap (map span) (run_lossless s name f g taken).items
      ∙ sym (told_spans_are (steps_of s name f g))
      ∙ ap told_spans (split_items s name f taken w)
      ∙ map-append told_span l (items_of s name f e)
      ∙ ap (λ (ps : List Part). told_spans l ++ ps) (told_spans_are (steps_of s name f e) ∙ sym (ap (map span) (run_lossless s name f e (split_taken s name f taken w)).items))

  module _ {g e : State} {l : List Told} (taken : (refusal s name f g).0 ≡ 0) (w : Split s name f g l e) (ended : e.mode ≡ 2) where
    -- what the runs wrote are the items that were taken
    written : l ≡ map told (steps_in (takings s name f g))
    written = split_whole s name f taken w ended ∙ ap (map told) (sym (run_lossless s name f g taken).items)

    -- Runs that come to the end wrote them all.
    pub whole_spans : told_spans l ≡ spans_in (takings s name f g)
    whole_spans = ap told_spans written ∙ told_spans_are (steps_in (takings s name f g))

    -- so what is counted is counted by the records
    counted_once : (b : ℕ) → counted s name f g l b ≡ in_part b (g.offset, limit g.offset (takings s name f g))
    counted_once b = ap (λ (ps : List Part). held b ps + held b (skips_in (takings s name f g))) whole_spans ∙ (run_lossless s name f g taken).once b

    -- it is counted once below the limit, where the text is read from its first byte
    counted_below : g.offset ≡ 0 → (b : ℕ) → b < limit g.offset (takings s name f g) → counted s name f g l b ≡ 1
    counted_below first b h = counted_once b ∙ inside b g.offset (limit g.offset (takings s name f g)) (omega arith) h

    -- the last item that was taken is the last in the records
    module _ (going : g.mode ≡ 2 → ⊥) where
      the_last : Last s name f g (takings s name f g)
      the_last = (run_lossless s name f g taken).last going

      before : List Told
      before = map told (steps_in the_last.before)

      written_last : l ≡ before ++ (told the_last.t ∷ [])
      unfolding before
      written_last =
          written
          ∙ ap (λ (us : List Taking). map told (steps_in us)) the_last.is_last
          ∙ ap (map told) (steps_last the_last.before the_last.st.offset the_last.t)
          ∙ map-append told (steps_in the_last.before) (the_last.t ∷ [])

      last_is : last_kind 0 l ≡ the_last.t.item.kind
      last_is = ap (last_kind 0) written_last ∙ last_kind_is 0 before (told the_last.t)

    -- where its kind isn't 0 there is one: the first state hadn't ended
    has_last : (last_kind 0 l ≡ 0 → ⊥) → g.mode ≡ 2 → ⊥
    has_last h m = h (ap (last_kind 0) (split_whole s name f taken w ended ∙ ap (map told) (steps_of_end s name f g m)))

    -- Document 02's K4.
    pub covered : g.offset ≡ 0 → Covered s name f g l
    covered first = record {
      ends = λ n. ⊎_map (λ q. last_is n ∙ q.0) (λ q. last_is n ∙ q.0) (the_last n).ends;
      eof = λ h b k.
          let n = has_last (λ z. eof_kind.0 (sym h ∙ z)) in
          let x = the_last n in
          let ends : x.st.offset ≡ length s = ⊎_elim (λ q. q.1) (λ q. absurd (eof_kind.1 (sym h ∙ last_is n ∙ q.0))) x.ends in
          counted_below first b (omega (arith, x.limited, ends));
      error = λ h.
          let n = has_last (λ z. error_kind (sym h ∙ z)) in
          let x = the_last n in
          record {
            st = x.st;
            reached = x.reached;
            outside = x.outside;
            within = ⊎_elim (λ q. absurd (eof_kind.1 (sym q.0 ∙ sym (last_is n) ∙ h))) (λ q. q.1) x.ends;
            t = x.t;
            gives = x.gives;
            fails = sym (last_is n) ∙ h;
            before = before n;
            is_last = written_last n;
            once = λ b k. counted_below first b (omega (arith, x.limited));
          };
      skips = (run_lossless s name f g taken).skips;
      forward = subst (Forward 0) (sym whole_spans) (subst (λ (o : ℕ). Forward o (spans_in (takings s name f g))) first (run_lossless s name f g taken).forward);
    }
