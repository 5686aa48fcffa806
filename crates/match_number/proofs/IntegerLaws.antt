-- Matchers put together from what their parts found, and the definition's integers from the ends of their digits on. Rests on the
-- definition.
use Rattle.std.specs.Prelude.{Option}
use Prim.Native.Nat.{ℕ}
use mathlib.Core.Path.{◌≡◌, sym, ap, ap₂, ◌∙◌}
use mathlib.Core.List.{[], ◌∷◌}
use Rattle.definition.specs.Basics.{Bytes}
use Rattle.definition.specs.Matchers.{◌then◌, later, max_list, match_lit, match_integer, match_xinteger, any_integer_ends, match_int_suffix, match_int_usuffix}
use Rattle.match_number.specs.declared.IntegerEnds.{IntegerEnds}
use Rattle.match_number.specs.IntegerParts.{integer_ends, usuffix}
use Rattle.match_lit.proofs.ByteLaws.{later_nothing}

-- ---- matchers put together, from what their parts found

-- A matcher after an end that is known by an equation.
pub then_of : (f : ℕ → Option ℕ) {m n r : Option ℕ} → r ≡ (m then f) → m ≡ n → r ≡ (n then f)
then_of f p q = p ∙ ap (λ (k : Option ℕ). k then f) q

-- The later of two ends that are.
pub later_of : {a b x y r : Option ℕ} → r ≡ later a b → a ≡ x → b ≡ y → r ≡ later x y
later_of p q h = p ∙ ap₂ later q h

-- ---- suffixes

-- What is looked for after both ends, where they are known by an equation.
pub ends_of : (s : Bytes) (i : ℕ) (f : ℕ → Option ℕ) {ends : IntegerEnds} {r : Option ℕ} → r ≡ later (ends.plain then f) (ends.based then f)
    → ends ≡ integer_ends s i → r ≡ later (match_integer s i then f) (match_xinteger s i then f)
ends_of s i f p q = p ∙ ap (λ (e : IntegerEnds). later (e.plain then f) (e.based then f)) q

-- The later of two ends is the latest of their list.
two_ends : (a b : Option ℕ) → later a b ≡ max_list (a ∷ b ∷ [])
unfolding max_list
two_ends a b = ap (later a) (sym (later_nothing b))

module _ (s : Bytes) (i : ℕ) (word : Bytes) where
  -- An integer with a suffix is a suffix after either end.
  pub suffix_is : later (match_integer s i then match_lit s word) (match_xinteger s i then match_lit s word) ≡ match_int_suffix s i word
  unfolding match_int_suffix any_integer_ends
  suffix_is = two_ends (match_integer s i then match_lit s word) (match_xinteger s i then match_lit s word)

  -- So is one with a u before it.
  pub usuffix_is : later (match_integer s i then usuffix s word) (match_xinteger s i then usuffix s word) ≡ match_int_usuffix s i word
  unfolding match_int_usuffix any_integer_ends usuffix
  usuffix_is = two_ends (match_integer s i then usuffix s word) (match_xinteger s i then usuffix s word)
