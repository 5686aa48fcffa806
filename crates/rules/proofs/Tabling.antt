-- The word of what `select` chooses is one of its place's table. Rests on nothing but the definition.
use Rattle.std.specs.Prelude.{Option, Some, None}
use Prim.Native.Nat.{ℕ, suc, ◌+◌, ◌≤◌, ◌<◌}
use Prim.Native.Char.{Char as Letter}
use Prim.Native.String.{String}
use native.Mathlib.Omega.{arith}
use mathlib.Core.Bool.{Bool, true, false, ◌||◌}
use mathlib.Core.List.{List, [], ◌∷◌}
use lib.Dec.{ltb, leb, eqb}
use lib.ListN.{length}
use Rattle.definition.specs.Basics.{Bytes, ch}
use Rattle.definition.specs.Text.{char_has, star}
use Rattle.definition.specs.Tables.{cps, early_literals, kw_op_rules, op_tokens, mixfix_rules, words_of, kw_op_words}
use Rattle.definition.specs.Chars.{ascii_limit, is_digit, is_anywhite, is_op_char, is_symbolchar, is_uoperator}
use Rattle.definition.specs.Matchers.{◌then◌, later, max_list, only, one, match_lit, plus, match_newline, match_ident, match_constructor, match_char_lit, any_integer_ends, match_int_suffix, match_int_usuffix, match_real, match_bad_number, match_backtick_ident}
use Rattle.definition.specs.Select.{none_at, keep, found, try_words, try_all, one_of_then_symbols, lit_then_symbols, places, select}
use Rattle.definition.specs.declared.Choice.{Choice}
use Rattle.lemmas.proofs.Cases.{by_test, by_if}
use Rattle.lemmas.proofs.Each.{Each, none_left, ◌⨾◌}
use Rattle.rule_table.specs.Tabled.{table_size, Tabled}

-- every place has a word, if only the one that stands for none
some_word : (k : ℕ) → 0 < table_size k
unfolding table_size
some_word k =
    by_test (λ (n : ℕ). 0 < n) (eqb k 1) (λ _. omega arith) λ _.
    by_test (λ (n : ℕ). 0 < n) (eqb k 12) (λ _. omega arith) λ _.
    by_test (λ (n : ℕ). 0 < n) (eqb k 36) (λ _. omega arith) λ _.
    by_test (λ (n : ℕ). 0 < n) (eqb k 50) (λ _. omega arith) (λ _. omega arith)

module _ (i : ℕ) where
  -- none of the places
  none_tabled : Tabled (none_at i)
  unfolding table_size
  none_tabled = record { place = omega arith; word = omega arith }

  -- what a matcher finds for a word
  found_tabled : (k w : ℕ) (m : Option ℕ) → k < 51 → w < table_size k → Tabled (found i k w m)
  found_tabled k w (Some e) h l = record { place = h; word = l }
  found_tabled k w None h l = none_tabled

  -- the better of two
  keep_tabled : {best new : Choice} → Tabled best → Tabled new → Tabled (keep best new)
  unfolding keep
  keep_tabled {best} {new} b n = by_if Tabled (ltb best.end new.end) (λ _. n) (λ _. b)

  -- the best of all words of a table
  words_tabled : (k : ℕ) (m : Bytes → Option ℕ) (w : ℕ) (es : List String) → k < 51 → w + length es ≤ table_size k → {best : Choice}
      → Tabled best → Tabled (try_words i k m w es best)
  unfolding try_words
  words_tabled k m w [] h l b = b
  words_tabled k m w (e ∷ es) h l b =
      words_tabled k m (suc w) es h (omega arith) (keep_tabled b (found_tabled k w (m (cps e)) h (omega arith)))

  -- the best of all places
  all_tabled : {cs : List Choice} → Each Tabled cs → {best : Choice} → Tabled best → Tabled (try_all cs best)
  unfolding try_all
  all_tabled none_left b = b
  all_tabled (h ⨾ hs) b = all_tabled hs (keep_tabled b h)

  -- a place without a table
  single : (k : ℕ) (m : Option ℕ) → k < 51 → Tabled (found i k 0 m)
  single k m h = found_tabled k 0 m h (some_word k)

  -- a table
  table : (k : ℕ) (m : Bytes → Option ℕ) (es : List String) → k < 51 → length es ≤ table_size k → Tabled (try_words i k m 0 es (none_at i))
  table k m es h l = words_tabled k m 0 es h (omega arith) none_tabled

  module _ (s f : Bytes) where
    -- each place, in order
    places_tabled : Each Tabled (places s f i)
    unfolding places table_size early_literals kw_op_rules op_tokens mixfix_rules
    places_tabled =
        let is : Letter → Bool = λ x. char_has (λ c. eqb c (ch x)) s i in
        let beyond_ascii : Bool = char_has (λ c. leb ascii_limit c) s i in
        let digit : Bool = char_has is_digit s i in
        let op_char : Bool = char_has is_op_char s i in
        let lit : String → Option ℕ = λ word. match_lit s (cps word) i in
        let when : Bool → Option ℕ → Option ℕ = λ t m. only t m in
        table 1 (λ w. match_lit s w i) (words_of early_literals) (omega arith) (omega arith)
        ⨾ single 2 (when (is "`") (lit "```" then match_ident s f)) (omega arith)
        ⨾ single 3 (when (is "#") (lit "#lang-" then match_ident s f)) (omega arith)
        ⨾ single 4 (when (is "_") (lit "__SOURCE_FILE__")) (omega arith)
        ⨾ single 5 (when (is "_") (lit "__LINE__")) (omega arith)
        ⨾ single 6 (when (is "_") (lit "__FILELINE__")) (omega arith)
        ⨾ single 7 (when beyond_ascii (plus (is_anywhite f) s i)) (omega arith)
        ⨾ single 8 (when beyond_ascii (match_newline s i)) (omega arith)
        ⨾ single 9 (when (is "'") (match_char_lit s i false)) (omega arith)
        ⨾ single 10 (when (is "'") (match_char_lit s i true)) (omega arith)
        ⨾ single 11 (when (is "`") (Some (i + 1))) (omega arith)
        ⨾ table 12 (λ w. match_lit s w i then plus is_op_char s) kw_op_words (omega arith) (omega arith)
        ⨾ single 13 (when (is ";") (lit ";;")) (omega arith)
        ⨾ single 14 (match_ident s f i) (omega arith)
        ⨾ single 15 (match_constructor s f i) (omega arith)
        ⨾ single 16 (when digit (max_list (any_integer_ends s i))) (omega arith)
        ⨾ single 17 (when digit (later (match_int_usuffix s i (cps "y")) (match_int_suffix s i (cps "z")))) (omega arith)
        ⨾ single 18 (when digit (match_int_suffix s i (cps "y"))) (omega arith)
        ⨾ single 19 (when digit (match_int_usuffix s i (cps "s"))) (omega arith)
        ⨾ single 20 (when digit (match_int_suffix s i (cps "s"))) (omega arith)
        ⨾ single 21 (when digit (match_int_usuffix s i (cps "l"))) (omega arith)
        ⨾ single 22 (when digit (match_int_suffix s i (cps "l"))) (omega arith)
        ⨾ single 23 (when digit (match_int_usuffix s i (cps "L"))) (omega arith)
        ⨾ single 24 (when digit (match_int_suffix s i (cps "L"))) (omega arith)
        ⨾ single 25 (when digit (match_int_suffix s i (cps "sz"))) (omega arith)
        ⨾ single 26 (when digit (match_real s i)) (omega arith)
        ⨾ single 27 (when digit (match_bad_number s f i)) (omega arith)
        ⨾ single 28 (when (is "(") (lit "(*")) (omega arith)
        ⨾ single 29 (when (is "/") (lit "// IN F*:")) (omega arith)
        ⨾ single 30 (when (is "/") (lit "//")) (omega arith)
        ⨾ single 31 (when (is "\"") (Some (i + 1))) (omega arith)
        ⨾ single 32 (when (is "`") (match_backtick_ident s i)) (omega arith)
        ⨾ single 33 (when (is "<") (lit "<|")) (omega arith)
        ⨾ single 34 (when (is "|") (lit "|>")) (omega arith)
        ⨾ single 35 (when (is ".") (lit "..")) (omega arith)
        ⨾ table 36 (λ w. match_lit s w i) (words_of op_tokens) (omega arith) (omega arith)
        ⨾ single 37 (when op_char (when (is "<") (Some (i + 1)))) (omega arith)
        ⨾ single 38 (when op_char (when (is ">") (Some (star is_symbolchar s (i + 1))))) (omega arith)
        ⨾ single 39 (when op_char (lit_then_symbols s i "**")) (omega arith)
        ⨾ single 40 (when op_char (lit_then_symbols s i "|->")) (omega arith)
        ⨾ single 41 (when op_char (one_of_then_symbols s i "!~?")) (omega arith)
        ⨾ single 42 (when op_char (one_of_then_symbols s i "|")) (omega arith)
        ⨾ single 43 (when op_char (one_of_then_symbols s i "&")) (omega arith)
        ⨾ single 44 (when op_char (one_of_then_symbols s i "=<")) (omega arith)
        ⨾ single 45 (when op_char (one_of_then_symbols s i "$")) (omega arith)
        ⨾ single 46 (when op_char (one_of_then_symbols s i "@^")) (omega arith)
        ⨾ single 47 (when op_char (one_of_then_symbols s i "+-")) (omega arith)
        ⨾ single 48 (when op_char (one_of_then_symbols s i "*/%")) (omega arith)
        ⨾ single 49 (when beyond_ascii (one (is_uoperator f) s i)) (omega arith)
        ⨾ table 50 (λ w. match_lit s w i) (words_of mixfix_rules) (omega arith) (omega arith)
        ⨾ none_left

    -- the choice
    pub select_tabled : Tabled (select s f i)
    unfolding select
    select_tabled =
        by_test Tabled (char_has (λ c. eqb c (ch " ") || (eqb c (ch "\t") || (eqb c 11 || eqb c 12))) s i)
        (λ _. single 7 (plus (is_anywhite f) s i) (omega arith))
        (λ _. by_test Tabled (char_has (λ c. eqb c (ch "\n") || eqb c (ch "\r")) s i)
        (λ _. single 8 (match_newline s i) (omega arith))
        (λ _. all_tabled places_tabled none_tabled))
