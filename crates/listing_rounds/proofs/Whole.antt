-- What the rounds of a listing hand over to be written, one after the other, are the lines of all items. Rests on what one run has done
-- (EitherRuns).
use Prim.Native.Nat.{ℕ, ◌+◌}
use mathlib.Core.Path.{◌≡◌, refl, sym, ap, ap₂, ◌∙◌}
use mathlib.Core.List.{List, [], ◌∷◌, ◌++◌, append_assoc}
use lib.ListN.{length, take, drop}
use lib.Seq.{take_at, drop_at}
use Rattle.definition.specs.Basics.{Bytes}
use Rattle.definition.specs.Item.{Step, record_size, words}
use Rattle.definition.specs.Items.{records_of}
use Rattle.definition.specs.declared.Item.{Item}
use Rattle.lemmas.specs.Over.{over}
use Rattle.laws_run.proofs.Buffers.{words_size}
use Rattle.either_run.specs.Either.{either_run, either_refusal, either_items}
use Rattle.either_run.specs.declared.Saved.{Saved}
use Rattle.listing_lines.specs.Line.{line, lines}
use Rattle.listing_rounds.specs.Rounds.{lines_of, listing}
use Rattle.listing_rounds.proofs.EitherRuns.{either_did}

-- a line doesn't show word 6
line_without_6 : (t : Item) (used : ℕ) → line (words t used) ≡ line (words t 0)
unfolding line
line_without_6 t used = refl

-- the lines of records that stand in a buffer
lines_found : (used : ℕ) (ts : List Step) (rest : List ℕ) → lines (length ts) (records_of used ts ++ rest) ≡ lines_of ts
unfolding lines records_of lines_of
lines_found used [] rest = refl
lines_found used (t ∷ ts) rest =
    let w = words t.item used in
    let more = records_of (used + length t.payload) ts in
    let n : length w ≡ record_size = words_size t.item used in
    let e : (w ++ more) ++ rest ≡ w ++ (more ++ rest) = append_assoc w more rest in
    let first = take_at w (more ++ rest) record_size n in
    let others = drop_at w (more ++ rest) record_size n in
    ap (λ (l : List ℕ). line (take record_size l) ++ lines (length ts) (drop record_size l)) e
    ∙ ap₂ (λ (x y : List ℕ). line x ++ lines (length ts) y) first others
    ∙ ap₂ (λ (x y : Bytes). x ++ y) (line_without_6 t.item used) (lines_found (used + length t.payload) ts rest)

-- items one after the other
lines_of_append : (ts us : List Step) → lines_of (ts ++ us) ≡ lines_of ts ++ lines_of us
unfolding lines_of
lines_of_append [] us = refl
lines_of_append (t ∷ ts) us =
    ap (λ (r : Bytes). line (words t.item 0) ++ r) (lines_of_append ts us) ∙ sym (append_assoc (line (words t.item 0)) (lines_of ts) (lines_of us))

module _ (s name f : Bytes) (from : Saved) (rs : List ℕ) (ps : Bytes) (taken : either_refusal s name f from ≡ 0) where
  -- What a round hands over, and then the lines from the state that its run handed back, are the lines from the state given,
  pub round_lines : let o = either_run s name f from rs ps in listing s name f from ≡ lines o.0.count o.1 ++ listing s name f o.0.state
  unfolding over
  round_lines =
      let o = either_run s name f from rs ps in
      let d = either_did s name f rs ps from taken in
      let found : lines o.0.count o.1 ≡ lines_of d.ts =
      ap₂ (λ (n : ℕ) (l : List ℕ). lines n l) d.count d.records ∙ lines_found 0 d.ts _ in
      ap lines_of d.items
      ∙ lines_of_append d.ts (either_items s name f o.0.state)
      ∙ ap (λ (b : Bytes). b ++ listing s name f o.0.state) (sym found)

  -- and after the last round there are none.
  pub no_lines : (either_run s name f from rs ps).0.stop ≡ 0 → listing s name f (either_run s name f from rs ps).0.state ≡ []
  unfolding lines_of
  no_lines q = ap lines_of ((either_did s name f rs ps from taken).ended q)
