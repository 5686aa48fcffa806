-- A lexeme that fails the test by its first byte and its length is no keyword. Rests on the law that every keyword passes it.
use Rattle.std.specs.Prelude.{None}
use Prim.Native.Nat.{ℕ, suc}
use mathlib.Core.Path.{◌≡◌, refl, sym, ap, ◌∙◌}
use mathlib.Core.Bool.{Bool, true, false}
use mathlib.Core.List.{List, [], ◌∷◌}
use Rattle.definition.specs.Basics.{Bytes, same}
use Rattle.definition.specs.Tables.{keywords}
use Rattle.lemmas.proofs.Cases.{by_outcome, both, never}
use Rattle.table_words.proofs.WordLaws.{same_equal}
use Rattle.table_words.specs.Words.{spelled}
use Rattle.table_keywords.specs.Lengths.{may_be_keyword}
use Rattle.table_keywords.proofs.LengthLaws.{all_pass, keywords_pass}
use Rattle.table_keywords.specs.Places.{place}

-- What fails a test that each word passes is none of them.
place_none : (t : Bytes → Bool) (id : Bytes) (n : ℕ) (ws : List Bytes) → all_pass t ws ≡ true → t id ≡ false → place n id ws ≡ None
unfolding place
place_none t id n [] p q = refl
place_none t id n (w ∷ ws) p q =
    let b = both (t w) (all_pass t ws) p in
    by_outcome (same w id)
    (λ e. never (sym q ∙ ap t (sym (same_equal w id e)) ∙ b.0))
    (λ e. rw (place, e) (place_none t id (suc n) ws b.1 q))

-- What fails the test that every keyword passes is no keyword.
pub no_keyword : (id : Bytes) → may_be_keyword id ≡ false → place 0 id (spelled keywords) ≡ None
no_keyword id = place_none may_be_keyword id 0 (spelled keywords) keywords_pass
