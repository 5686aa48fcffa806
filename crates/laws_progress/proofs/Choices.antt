-- What `select` chooses ends within the text and on a character, and after its start unless it is none of the places.
-- Rests on the laws of the matchers and of words.
use Rattle.std.specs.Prelude.{Option, Some, None}
use Prim.Native.Nat.{ℕ, suc, ◌+◌, ◌<◌}
use Prim.Native.Char.{Char as Letter}
use Prim.Native.String.{String}
use mathlib.Core.Path.{◌≡◌, refl, sym, ◌∙◌}
use mathlib.Core.Bool.{Bool, true, false, not, ◌||◌, false≢true}
use mathlib.Core.List.{List, [], ◌∷◌}
use native.Mathlib.Omega.{arith}
use lib.Dec.{ltb, leb, eqb}
use Rattle.definition.specs.Basics.{Bytes, ch, codes, mem_cp}
use Rattle.definition.specs.Text.{char_has}
use Rattle.definition.specs.Chars.{ascii_limit, is_digit, is_anywhite, is_op_char, is_symbolchar, is_uoperator}
use Rattle.definition.specs.Tables.{cps, early_literals, kw_op_rules, op_tokens, mixfix_rules, words_of, kw_op_words}
use Rattle.definition.specs.Matchers.{◌then◌, only, match_lit, plus, match_int_suffix, match_int_usuffix}
use Rattle.definition.specs.Select.{none_at, keep, found, try_words, try_all, one_of_then_symbols, lit_then_symbols, places, select}
use Rattle.definition.specs.declared.Choice.{Choice}
use Rattle.lemmas.proofs.Cases.{by_test, by_if, both}
use Rattle.lemmas.proofs.Each.{Each, none_left, ◌⨾◌}
use Rattle.laws_progress.proofs.Walks.{Clean, clean_walk, Onward, onward_walk, onward_onward, char_onward_one, star_walks, Passes}
use Rattle.laws_progress.proofs.Ends.{Ends, ends_to, ends_map, ends_then, ends_only, ends_later}
use Rattle.laws_progress.proofs.Matches.{
  small_is,
  one_ends,
  then_star,
  after_walk,
  plus_ends,
  newline_ends,
  ident_ends,
  constructor_ends,
  char_lit_ends,
  any_integer_max,
  int_suffix_ends,
  int_usuffix_ends,
  real_ends,
  bad_number_ends,
  backtick_ends,
}
use Rattle.laws_progress.proofs.Words.{all_plain, begins_with, table_begins, word_walk, word_begins, word_onward}

-- the place whose words are keywords before operator characters
abbrev pub kw_op_place : ℕ
kw_op_place = 12

-- an end that place k may choose from i on. What the keyword operators choose doesn't begin with a slash: so `no_comment`
-- leaves something of it
pub record Chosen (s : Bytes) (i k e : ℕ) : Type 0 where
  pub onward : Onward s i e
  pub no_slash : eqb k kw_op_place ≡ true → Passes (λ c. not (eqb c (ch "/"))) s i

-- a choice at i: none, or one that its place may make
pub record Fits (s : Bytes) (i : ℕ) (c : Choice) : Type 0 where
  pub chosen : eqb c.place 0 ≡ false → Chosen s i c.place c.end

module _ (s : Bytes) (i : ℕ) where
  -- none of the places is a choice
  none_fits : Fits s i (none_at i)
  none_fits = record { chosen = λ e. absurd (false≢true (sym e)) }

  -- what a matcher finds for a place
  found_fits : (k w : ℕ) (m : Option ℕ) → Ends (Chosen s i k) m → Fits s i (found i k w m)
  found_fits k w (Some e) h = record { chosen = λ _. h.at refl }
  found_fits k w None h = none_fits

  -- the same for a place that has no keyword operators
  place_fits : (k : ℕ) {m : Option ℕ} → eqb k kw_op_place ≡ false → Ends (Onward s i) m → Fits s i (found i k 0 m)
  place_fits k {m} q h = found_fits k 0 m (ends_map (λ e o. record { onward = o; no_slash = λ t. absurd (false≢true (sym q ∙ t)) }) h)

  -- the better of two choices
  keep_fits : {best new : Choice} → Fits s i best → Fits s i new → Fits s i (keep best new)
  unfolding keep
  keep_fits {best} {new} f g = by_if (Fits s i) (ltb best.end new.end) (λ _. g) (λ _. f)

  -- the best of all words of a table that begin with a character that passes a test
  words_fit : (k : ℕ) (p : ℕ → Bool) (m : Bytes → Option ℕ) → ((x : String) → begins_with p (codes x) ≡ true → Ends (Chosen s i k) (m (cps x)))
      → (w : ℕ) (es : List String) → table_begins p es ≡ true → {best : Choice} → Fits s i best → Fits s i (try_words i k m w es best)
  unfolding try_words
  words_fit k p m h w [] t f = f
  words_fit k p m h w (e ∷ es) t f =
      let q = both (begins_with p (codes e)) (table_begins p es) t in
      words_fit k p m h (suc w) es q.1 (keep_fits f (found_fits k w _ (h e q.0)))

  -- the best of all places
  all_fit : {cs : List Choice} → Each (Fits s i) cs → {best : Choice} → Fits s i best → Fits s i (try_all cs best)
  unfolding try_all
  all_fit none_left f = f
  all_fit (h ⨾ hs) f = all_fit hs (keep_fits f h)

  -- ---- the places

  -- a table of words
  table_fits : (k : ℕ) → eqb k kw_op_place ≡ false → (es : List String) → table_begins (λ c. true) es ≡ true
      → Fits s i (try_words i k (λ w. match_lit s w i) 0 es (none_at i))
  table_fits k q es t =
      words_fit k (λ c. true) (λ w. match_lit s w i)
      (λ x b. ends_map (λ e o. record { onward = o; no_slash = λ t. absurd (false≢true (sym q ∙ t)) }) (word_onward s x b i))
      0 es t none_fits

  -- the keyword operators
  kw_ops_fit : Fits s i (try_words i kw_op_place (λ w. match_lit s w i then plus is_op_char s) 0 kw_op_words (none_at i))
  unfolding kw_op_rules
  kw_ops_fit =
      words_fit kw_op_place (λ c. not (eqb c (ch "/"))) (λ w. match_lit s w i then plus is_op_char s)
      (λ x b. ends_then (word_begins s _ x b i) (λ j h. ends_map
      (λ e o. record { onward = onward_onward h.onward o; no_slash = λ _. h.begins }) (plus_ends s is_op_char j)))
      0 kw_op_words refl none_fits

  -- a place with a test in front
  when_fits : (k : ℕ) {m : Option ℕ} (t : Bool) → eqb k kw_op_place ≡ false → (t ≡ true → Ends (Onward s i) m) → Fits s i (found i k 0 (only t m))
  when_fits k t q h = place_fits k q (ends_only t h)

  -- a place that has a word of a character or more
  word_fits : (k : ℕ) (t : Bool) (w : String) → eqb k kw_op_place ≡ false → begins_with (λ c. true) (codes w) ≡ true
      → Fits s i (found i k 0 (only t (match_lit s (cps w) i)))
  word_fits k t w q b = when_fits k t q (λ _. word_onward s w b i)

  -- one character of ASCII that is tested
  is_onward : (x : Letter) → ch x < 0x80 → char_has (λ c. eqb c (ch x)) s i ≡ true → Onward s i (i + 1)
  is_onward x h t = char_onward_one (λ c. eqb c (ch x)) s i (small_is (ch x) h) t

  -- symbol characters after one of some characters, or after a word
  one_of_ends : (chars : String) → Ends (Onward s i) (one_of_then_symbols s i chars)
  unfolding one_of_then_symbols
  one_of_ends chars = then_star s is_symbolchar (one_ends s (λ c. mem_cp c (codes chars)) i)

  -- the same after a word
  lit_symbols_ends : (w : String) → begins_with (λ c. true) (codes w) ≡ true → Ends (Onward s i) (lit_then_symbols s i w)
  unfolding lit_then_symbols
  lit_symbols_ends w b = then_star s is_symbolchar (word_onward s w b i)

  module _ (f : Bytes) where
    -- each place, in order
    places_fit : Each (Fits s i) (places s f i)
    unfolding places early_literals op_tokens mixfix_rules
    places_fit =
        let is : Letter → Bool = λ x. char_has (λ c. eqb c (ch x)) s i in
        let beyond : Bool = char_has (λ c. leb ascii_limit c) s i in
        let digit : Bool = char_has is_digit s i in
        let op_char : Bool = char_has is_op_char s i in
        let suffix : (k : ℕ) (w : String) → eqb k kw_op_place ≡ false → all_plain (codes w) ≡ true → Fits s i (found i k 0 (only digit (match_int_suffix s i (cps w)))) =
        λ k w q p. when_fits k digit q (λ _. int_suffix_ends s i (cps w) (word_walk s w p))
        in
        let usuffix : (k : ℕ) (w : String) → eqb k kw_op_place ≡ false → all_plain (codes w) ≡ true → Fits s i (found i k 0 (only digit (match_int_usuffix s i (cps w)))) =
        λ k w q p. when_fits k digit q (λ _. int_usuffix_ends s i (cps w) (word_walk s w p))
        in
        let symbols : (k : ℕ) (chars : String) → eqb k kw_op_place ≡ false → Fits s i (found i k 0 (only op_char (one_of_then_symbols s i chars))) =
        λ k chars q. when_fits k op_char q (λ _. one_of_ends chars)
        in
        table_fits 1 refl (words_of early_literals) refl
        ⨾ when_fits 2 (is "`") refl (λ _. ends_then (word_onward s "```" refl i) (λ j o. after_walk s o.walk (ident_ends s f j)))
        ⨾ when_fits 3 (is "#") refl (λ _. ends_then (word_onward s "#lang-" refl i) (λ j o. after_walk s o.walk (ident_ends s f j)))
        ⨾ word_fits 4 (is "_") "__SOURCE_FILE__" refl refl
        ⨾ word_fits 5 (is "_") "__LINE__" refl refl
        ⨾ word_fits 6 (is "_") "__FILELINE__" refl refl
        ⨾ when_fits 7 beyond refl (λ _. plus_ends s (is_anywhite f) i)
        ⨾ when_fits 8 beyond refl (λ _. newline_ends s i)
        ⨾ when_fits 9 (is "'") refl (λ _. char_lit_ends s i false)
        ⨾ when_fits 10 (is "'") refl (λ _. char_lit_ends s i true)
        ⨾ when_fits 11 (is "`") refl (λ t. ends_to (is_onward "`" (omega arith) t))
        ⨾ kw_ops_fit
        ⨾ word_fits 13 (is ";") ";;" refl refl
        ⨾ place_fits 14 refl (ident_ends s f i)
        ⨾ place_fits 15 refl (constructor_ends s f i)
        ⨾ when_fits 16 digit refl (λ _. any_integer_max s i)
        ⨾ when_fits 17 digit refl (λ _. ends_later (int_usuffix_ends s i (cps "y") (word_walk s "y" refl)) (int_suffix_ends s i (cps "z") (word_walk s "z" refl)))
        ⨾ suffix 18 "y" refl refl
        ⨾ usuffix 19 "s" refl refl
        ⨾ suffix 20 "s" refl refl
        ⨾ usuffix 21 "l" refl refl
        ⨾ suffix 22 "l" refl refl
        ⨾ usuffix 23 "L" refl refl
        ⨾ suffix 24 "L" refl refl
        ⨾ suffix 25 "sz" refl refl
        ⨾ when_fits 26 digit refl (λ _. real_ends s i)
        ⨾ when_fits 27 digit refl (λ _. bad_number_ends s f i (word_walk s "LF" refl))
        ⨾ word_fits 28 (is "(") "(*" refl refl
        ⨾ word_fits 29 (is "/") "// IN F*:" refl refl
        ⨾ word_fits 30 (is "/") "//" refl refl
        ⨾ when_fits 31 (is "\"") refl (λ t. ends_to (is_onward "\"" (omega arith) t))
        ⨾ when_fits 32 (is "`") refl (λ _. backtick_ends s i)
        ⨾ word_fits 33 (is "<") "<|" refl refl
        ⨾ word_fits 34 (is "|") "|>" refl refl
        ⨾ word_fits 35 (is ".") ".." refl refl
        ⨾ table_fits 36 refl (words_of op_tokens) refl
        ⨾ when_fits 37 op_char refl (λ _. ends_only (is "<") (λ t. ends_to (is_onward "<" (omega arith) t)))
        ⨾ when_fits 38 op_char refl (λ _. ends_only (is ">") (λ t. ends_to (onward_walk (is_onward ">" (omega arith) t) (star_walks is_symbolchar s (i + 1)))))
        ⨾ when_fits 39 op_char refl (λ _. lit_symbols_ends "**" refl)
        ⨾ when_fits 40 op_char refl (λ _. lit_symbols_ends "|->" refl)
        ⨾ symbols 41 "!~?" refl
        ⨾ symbols 42 "|" refl
        ⨾ symbols 43 "&" refl
        ⨾ symbols 44 "=<" refl
        ⨾ symbols 45 "$" refl
        ⨾ symbols 46 "@^" refl
        ⨾ symbols 47 "+-" refl
        ⨾ symbols 48 "*/%" refl
        ⨾ when_fits 49 beyond refl (λ _. one_ends s (is_uoperator f) i)
        ⨾ table_fits 50 refl (words_of mixfix_rules) refl
        ⨾ none_left

    -- the choice
    pub select_fits : Fits s i (select s f i)
    unfolding select
    select_fits =
        by_test (Fits s i) (char_has (λ c. eqb c (ch " ") || (eqb c (ch "\t") || (eqb c 11 || eqb c 12))) s i)
        (λ _. place_fits 7 refl (plus_ends s (is_anywhite f) i))
        (λ _. by_test (Fits s i) (char_has (λ c. eqb c (ch "\n") || eqb c (ch "\r")) s i)
        (λ _. place_fits 8 refl (newline_ends s i))
        (λ _. all_fit places_fit none_fits))

    -- where the text is clean it is so after the choice, where a comment and a blob begin
    pub choice_clean : Clean s i → eqb (select s f i).place 0 ≡ false → Clean s (select s f i).end
    choice_clean c t = clean_walk (select_fits.chosen t).onward.walk c
