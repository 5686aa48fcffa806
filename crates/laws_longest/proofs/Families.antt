-- The families of places that are one shape with other characters: names, operators after a first character or a word, words after
-- a test, and tables of words. Rests on the shapes and on the choice among the words of a table.
use Rattle.std.specs.Prelude.{Option, Some}
use Prim.Native.Nat.{ℕ, ◌+◌, ◌<◌}
use Prim.Native.String.{String}
use mathlib.Core.Path.{◌≡◌, refl, sym, subst}
use mathlib.Core.Bool.{Bool, true, false≢true}
use mathlib.Core.List.{List, [], ◌∷◌}
use mathlib.Core.Logic.{inl, inr}
use lib.Dec.{eqb}
use Rattle.definition.specs.Basics.{Bytes, codes, mem_cp}
use Rattle.definition.specs.Text.{char_has, star}
use Rattle.definition.specs.Chars.{is_op_char, is_symbolchar, is_ident_start, is_constructor_start, is_ident_char}
use Rattle.definition.specs.Tables.{cps}
use Rattle.definition.specs.Matchers.{◌then◌, only, one, match_lit, match_ident, match_constructor}
use Rattle.definition.specs.Select.{none_at, try_words, one_of_then_symbols}
use Rattle.definition.specs.Regex.{Re, seq, word}
use Rattle.definition.specs.Patterns.{text, one_of, one_word, identifier, constructor, symbols}
use Rattle.laws_progress.proofs.Matches.{small_is}
use Rattle.laws_progress.proofs.Words.{all_plain}
use Rattle.laws_longest.proofs.Language.{Step, Chain, At}
use Rattle.laws_longest.proofs.Ends.{Right, right_then, Then}
use Rattle.laws_longest.proofs.Starts.{at_single, at_forward, guard, all_pass, listed_passes, one_way}
use Rattle.laws_longest.proofs.Shapes.{has_byte, one_right, step_single, right_here, right_has, right_letter, text_right, star_right}
use Rattle.laws_longest.proofs.Best.{Picks, picks_map, OneOf, all_words, picks_table}

-- A word is matched in one way.
word_one_way : (cs : List ℕ) → one_way (word cs) ≡ true
word_one_way [] = refl
word_one_way (c ∷ cs) = word_one_way cs

module _ (s : Bytes) where
  -- ---- a first part and a run

  -- A character, and all after it that pass another test, are found by `one` and `star`.
  pub head_run : (p q : ℕ → Bool) (i : ℕ) → Right (Then (Step s p i) (Chain (Step s q))) (one p s i then λ j. Some (star q s j))
  head_run p q i = right_then (step_single s) (one_right s p i) (λ j _. star_right s q j)

  -- `match_ident` finds the longest identifier.
  pub ident_right : (f : Bytes) (i : ℕ) → Right (At s (identifier f) i) (match_ident s f i)
  unfolding match_ident
  ident_right f i = head_run is_ident_start (is_ident_char f) i

  -- `match_constructor` finds the longest constructor.
  pub constructor_right : (f : Bytes) (i : ℕ) → Right (At s (constructor f) i) (match_constructor s f i)
  unfolding match_constructor
  constructor_right f i = head_run (is_constructor_start f) (is_ident_char f) i

  -- One of some characters that operators have, and the symbols after it, are the longest operator of its family.
  pub operator_right : (chars : String) (i : ℕ) → all_pass is_op_char (codes chars) ≡ true
      → Right (At s (seq (one_of chars) symbols) i) (only (char_has is_op_char s i) (one_of_then_symbols s i chars))
  unfolding one_of_then_symbols
  operator_right chars i h =
      guard s (seq (one_of chars) symbols) i refl (listed_passes is_op_char (codes chars) h) (head_run (λ c. mem_cp c (codes chars)) is_symbolchar i)

  -- ---- words

  -- A word is found first, and then what a matcher finds after it.
  pub word_then : {Q : ℕ → ℕ → Type 0} {f : ℕ → Option ℕ} (w : String) (i : ℕ) → all_plain (codes w) ≡ true
      → ((j : ℕ) → Right (Q j) (f j)) → Right (Then (At s (text w) i) Q) (match_lit s (cps w) i then f)
  word_then w i p h = right_then (at_single s (text w) i (word_one_way (codes w))) (text_right s w p i) (λ j _. h j)

  -- The same holds of a letter of ASCII that is tested as a character.
  pub letter_then : {Q : ℕ → ℕ → Type 0} {m : Option ℕ} (c i : ℕ) → c < 0x80 → Right (Q (i + 1)) m
      → Right (Then (At s (word (c ∷ [])) i) Q) (only (char_has (λ x. eqb x c) s i) m)
  letter_then {Q} {m} c i small h =
      subst (λ (t : Bool). Right (Then (At s (word (c ∷ [])) i) Q) (only t m)) (sym (has_byte s (small_is c small) i))
      (right_letter s c small i (i + 1) refl (λ _. h))

  -- It holds with nothing after the letter, too.
  pub letter_right : (c i : ℕ) → c < 0x80 → Right (At s (word (c ∷ [])) i) (only (char_has (λ x. eqb x c) s i) (Some (i + 1)))
  letter_right c i small = right_has s (small_is c small) i (i + 1) refl (λ _. right_here s)

  -- ---- tables

  -- A word that the text can be searched for.
  abbrev pub spelled : String → Bool
  spelled x = all_plain (codes x)

  module _ (i : ℕ) where
    -- A part that one of the words permits, one by one, the table's expression permits.
    word_of : (es : List String) (e : ℕ) → OneOf (λ x. At s (text x) i e) es → At s (one_word es) i e
    word_of [] e n = absurd n
    word_of (x ∷ es) e (inl h) = inl h
    word_of (x ∷ es) e (inr h) = inr (word_of es e h)

    -- It permits no other part.
    of_word : (es : List String) (e : ℕ) → At s (one_word es) i e → OneOf (λ x. At s (text x) i e) es
    of_word [] e h = false≢true h.passes
    of_word (x ∷ es) e (inl h) = inl h
    of_word (x ∷ es) e (inr h) = inr (of_word es e h)

    -- The choice among the words of a table is the longest that its expression permits.
    pub table_picks : (k : ℕ) (es : List String) → all_words spelled es ≡ true
        → Picks (At s (one_word es) i) i k (try_words i k (λ w. match_lit s w i) 0 es (none_at i))
    table_picks k es h =
        picks_map (word_of es) (of_word es)
        (picks_table i k spelled {Q = λ x. At s (text x) i} (λ w. match_lit s w i) (λ x. at_forward s (text x) i) (λ x t. text_right s x t i) es h)

    module _ (q : Re) where
      -- The same holds of one of the words with another expression after it.
      then_of : (es : List String) (e : ℕ) → OneOf (λ x. At s (seq (text x) q) i e) es → At s (seq (one_word es) q) i e
      then_of [] e n = absurd n
      then_of (x ∷ es) e (inl (j, a, b)) = (j, inl a, b)
      then_of (x ∷ es) e (inr h) = let t = then_of es e h in (t.0, inr t.1, t.2)

      -- It permits no other part.
      of_then : (es : List String) (e : ℕ) → At s (seq (one_word es) q) i e → OneOf (λ x. At s (seq (text x) q) i e) es
      of_then [] e (j, a, b) = false≢true a.passes
      of_then (x ∷ es) e (j, inl a, b) = inl (j, a, b)
      of_then (x ∷ es) e (j, inr a, b) = inr (of_then es e (j, a, b))

      -- The choice among the words of a table, each with a matcher after it, is the longest that the expressions permit.
      pub table_then : (k : ℕ) (f : ℕ → Option ℕ) → ((j : ℕ) → Right (At s q j) (f j)) → (es : List String) → all_words spelled es ≡ true
          → Picks (At s (seq (one_word es) q) i) i k (try_words i k (λ w. match_lit s w i then f) 0 es (none_at i))
      table_then k f g es h =
          picks_map (then_of es) (of_then es)
          (picks_table i k spelled {Q = λ x. At s (seq (text x) q) i} (λ w. match_lit s w i then f) (λ x. at_forward s (seq (text x) q) i)
          (λ x t. word_then x i t g) es h)
