-- What a test of a byte says, a literal byte by byte, and a range cut at a comment turn by turn. Rests on the definition, on the laws of
-- loops and on those of `no_comment`'s turns.
use Rattle.std.specs.Prelude.{Option, Some, None}
use Rattle.std.specs.Bool.{then_some}
use Rattle.std.specs.Option.{option_cmp}
use Rattle.std.specs.Ordering.{nat_cmp, ord_max}
use Rattle.std.proofs.lemmas.Grind.{common_steps}
use Prim.Native.Nat.{ℕ, ◌+◌, ◌≤◌, ◌<◌}
use mathlib.Core.Path.{◌≡◌, refl, ◌∙◌}
use mathlib.Core.Bool.{Bool, true, false, ◌&&◌, ◌||◌}
use native.Mathlib.Numerals.{add-one}
use native.Mathlib.Omega.{arith}
use lib.Dec.{leb, eqb}
use lib.ListN.{length, get_or, drop, drop_of_length-le}
use lib.Seq.{drop-cons}
use borrow.Author.Tests.{lt-ltb, le-ltb, le-leb, lt-leb, eq-eqb, ne_eqb}
use Rattle.definition.specs.Basics.{Bytes, ch, between}
use Rattle.definition.specs.Text.{byte_has, byte_is}
use Rattle.definition.specs.Matchers.{only, later, match_lit, no_comment}
use Rattle.lemmas.proofs.Cases.{tests, both, by_order}
use Rattle.lemmas.proofs.Loops.{says}
use Rattle.laws_progress.proofs.Walks.{byte_passes}
use Rattle.laws_progress.proofs.Scans.{no_comment_unroll}

module _ (p : ℕ → Bool) (s : Bytes) (i : ℕ) where
  -- Within the text the byte there decides.
  pub has_within : i < length s → byte_has p s i ≡ p (get_or s i 0)
  unfolding byte_has
  has_within h = simp (byte_has, tests)

  -- Past the end no test passes.
  pub has_past : length s ≤ i → byte_has p s i ≡ false
  unfolding byte_has
  has_past h = simp (byte_has, tests)

  -- A byte that passes is one of the text's.
  pub has_inside : byte_has p s i ≡ true → i < length s
  has_inside e = (byte_passes p s i e).0

-- Where two bytes stand the second is one of the text's too.
pub twice_inside : (b : ℕ) (s : Bytes) (i : ℕ) → byte_is b s i && byte_is b s (i + 1) ≡ true → i + 1 < length s
twice_inside b s i e = has_inside (λ x. eqb x b) s (i + 1) (both (byte_is b s i) (byte_is b s (i + 1)) e).1

module _ (s : Bytes) (i a b : ℕ) (h : i < length s) where
  -- A byte that is the first of two is one of them.
  pub either_first : get_or s i 0 ≡ a → byte_has (λ c. eqb c a || eqb c b) s i ≡ true
  either_first e = has_within (λ c. eqb c a || eqb c b) s i h ∙ rw (eq-eqb (get_or s i 0) a e)

  -- One that isn't is, if it is the second.
  pub either_second : (get_or s i 0 ≡ a → ⊥) → byte_has (λ c. eqb c a || eqb c b) s i ≡ eqb (get_or s i 0) b
  either_second n = has_within (λ c. eqb c a || eqb c b) s i h ∙ rw (ne_eqb (get_or s i 0) a n)

module _ (a b c : ℕ) where
  -- A byte below a range isn't in it.
  pub between_below : c < a → between a b c ≡ false
  between_below h = rw (lt-leb a c h)

  -- One that isn't below is, if it isn't above.
  pub between_from : a ≤ c → between a b c ≡ leb c b
  between_from h = rw (le-leb a c h)

-- What a test lets pass, as code says it, and as the definition does.
pub then_only : (t : Bool) (e : ℕ) → then_some t e ≡ only t (Some e)
then_only true e = refl
then_only false e = refl

-- ---- literals

module _ (s w : Bytes) (j i : ℕ) where
  -- A byte of the word that stands in the text is passed over.
  pub lit_on : j < length w → byte_is (get_or w j 0) s i ≡ true → match_lit s (drop j w) i ≡ match_lit s (drop (j + 1) w) (i + 1)
  unfolding match_lit
  lit_on h e = rw (add-one j, drop-cons w j 0) (rw (e, match_lit))

  -- At one that doesn't the word isn't there.
  pub lit_stop : j < length w → byte_is (get_or w j 0) s i ≡ false → match_lit s (drop j w) i ≡ None
  unfolding match_lit
  lit_stop h e = rw (drop-cons w j 0) (rw (e, match_lit))

  -- After its last byte the word is found.
  pub lit_done : length w ≤ j → match_lit s (drop j w) i ≡ Some i
  unfolding match_lit
  lit_done h = rw (drop_of_length-le w {i = j} h)

-- ---- the later of two ends

-- Nothing is before every end.
pub later_nothing : (m : Option ℕ) → later m None ≡ m
unfolding later
later_nothing (Some e) = refl
later_nothing None = refl

-- It is the greater of the two, where `None` stands first.
pub later_is : (a b : Option ℕ) → later a b ≡ ord_max (option_cmp nat_cmp) a b
unfolding later
later_is None None = refl
later_is None (Some e) = refl
later_is (Some d) None = refl
later_is (Some d) (Some e) =
    by_order d e (λ h. rw (lt-ltb d e h) (grind (arith, common_steps))) (λ h. rw (le-ltb d e h) (grind (arith, common_steps)))

-- ---- comments

module _ (s : Bytes) (e j : ℕ) (within : e ≤ length s) where
  -- With no two bytes left before the end nothing is cut.
  pub cut_end : e ≤ j + 1 → no_comment s j e ≡ e
  cut_end h = no_comment_unroll s e j within ∙ rw (le-leb e (j + 1) h, says)

  -- At two slashes the range is cut.
  pub cut_here : j + 1 < e → byte_is (ch "/") s j && byte_is (ch "/") s (j + 1) ≡ true → no_comment s j e ≡ j
  cut_here h t = no_comment_unroll s e j within ∙ rw (lt-leb e (j + 1) h, says) (rw (t, says))

  -- At any other byte the search goes on.
  pub cut_on : j + 1 < e → byte_is (ch "/") s j && byte_is (ch "/") s (j + 1) ≡ false → no_comment s j e ≡ no_comment s (j + 1) e
  cut_on h t = no_comment_unroll s e j within ∙ rw (lt-leb e (j + 1) h, says) (rw (t, says))
