-- The eighteen numbers, stored one by one, stand in the buffer, and those of an item are the definition's words. Rests on the laws of
-- buffers that are written over.
use Prim.Native.Nat.{ℕ, ◌≤◌}
use mathlib.Core.Path.{◌≡◌, refl, ap, ◌∙◌}
use mathlib.Core.List.{List, [], ◌∷◌, ◌++◌}
use lib.ListN.{length}
use lib.Seq.{sets}
use Rattle.definition.specs.Item.{record_size, sort_of, extra_words, words}
use Rattle.definition.specs.declared.Pos.{Pos}
use Rattle.definition.specs.declared.Item.{Item}
use Rattle.definition.specs.declared.Extra.{Extra}
use Rattle.definition.specs.declared.Extra.TheVariants.{NoExtra, CharLit, Blob, LexError, Comment}
use Rattle.lemmas.specs.Over.{over}
use Rattle.lemmas.proofs.Over.{stored}
use Rattle.record.specs.declared.ExtraNumbers.{ExtraNumbers}
use Rattle.record.specs.Numbers.{extra_numbers, numbers}

-- the numbers of an item are its words
numbers_are : (t : Item) (used : ℕ) (n : ExtraNumbers) → n ≡ extra_numbers t.extra
    → numbers t.kind t.sp t.ep used t.length t.comments n t.from t.to ≡ words t used
numbers_are t used n e = rw e (go t.extra)
  where
    go : (x : Extra) → numbers t.kind t.sp t.ep used t.length t.comments (extra_numbers x) t.from t.to
        ≡ sort_of x ∷ t.kind ∷ t.sp.line ∷ t.sp.col ∷ t.ep.line ∷ t.ep.col ∷ used ∷ t.length ∷ t.comments ∷ (extra_words x ++ (t.from ∷ t.to ∷ []))
    go NoExtra = refl
    go (CharLit c) = refl
    go (Blob n p q) = refl
    go (LexError n p q) = refl
    go (Comment b) = refl

-- so where they were written, its words were
pub record_written : (t : Item) (used : ℕ) (n : ExtraNumbers) (before after : List ℕ) → n ≡ extra_numbers t.extra
    → after ≡ over (numbers t.kind t.sp t.ep used t.length t.comments n t.from t.to) before → after ≡ over (words t used) before
record_written t used n before after e h = h ∙ ap (λ (vs : List ℕ). over vs before) (numbers_are t used n e)

-- numbers that are stored one by one
pub numbers_stored : (kind : ℕ) (sp ep : Pos) (used size comments : ℕ) (n : ExtraNumbers) (from to : ℕ) (l : List ℕ) → record_size ≤ length l
    → sets l 0 (numbers kind sp ep used size comments n from to) ≡ over (numbers kind sp ep used size comments n from to) l
numbers_stored kind sp ep used size comments n from to l h = (stored _ (numbers kind sp ep used size comments n from to) l refl h).bytes
