-- The 50 places, a line for each: what it chooses is the longest end of its pattern. Three lines are special. Places 7 and 8 ask for a
-- character beyond ASCII, which is right only where neither fast path was taken; place 27 leaves out what place 16 reaches.
-- Rests on the shapes, the families and, for places 16 to 27, on the record `Numbers`, which Numbers.antt proves.
use Rattle.std.specs.Prelude.{Option, Some, None}
use Prim.Native.Nat.{ℕ, ◌+◌, ◌≤◌, ◌<◌}
use Prim.Native.Char.{Char as Letter}
use Prim.Native.String.{String}
use mathlib.Core.Path.{◌≡◌, refl, sym, ap, subst, ◌∙◌}
use mathlib.Core.Bool.{Bool, true, false, not, ◌&&◌, ◌||◌, false≢true}
use mathlib.Core.List.{List, [], ◌∷◌}
use mathlib.Core.Logic.{◌⊎◌, inl, inr}
use native.Mathlib.Omega.{arith}
use lib.Dec.{eqb, leb}
use borrow.Author.Tests.{eqb-true, le-leb, lt-leb}
use Rattle.definition.specs.Basics.{Bytes, ch, codes, mem_cp}
use Rattle.definition.specs.Utf8.{sequence_at}
use Rattle.definition.specs.Text.{char_has}
use Rattle.definition.specs.ClassFile.{is_zs}
use Rattle.definition.specs.Chars.{ascii_limit, count_up, ascii_table, in_table, is_digit, is_hex, is_op_char, is_symbolchar, is_ident_char, is_anywhite, is_newline_char, is_uoperator}
use Rattle.definition.specs.Tables.{cps, early_literals, kw_op_rules, op_tokens, mixfix_rules, words_of, kw_op_words}
use Rattle.definition.specs.Matchers.{later, only, max_list, match_lit, any_integer_ends, match_int_suffix, match_int_usuffix, match_real, match_bad_number, plus, match_newline}
use Rattle.definition.specs.Select.{found, one_of_then_symbols, lit_then_symbols, places}
use Rattle.definition.specs.Regex.{Re, chr, seq, alt, at_least_one}
use Rattle.definition.specs.Patterns.{text, one_of, nl, identifier, constructor, symbols, any_char, integer, xinteger, any_integer, suffixed, usuffixed, floatp, ieee64, xieee64, backtick_free, patterns, pattern}
use Rattle.definition.specs.Samples.{nullable}
use Rattle.definition.specs.declared.Choice.{Choice}
use Rattle.definition.specs.declared.Sequence.TheVariants.{Char}
use Rattle.lemmas.proofs.Cases.{by_order}
use Rattle.lemmas.proofs.Cases.{by_test, either}
use Rattle.lemmas.proofs.Each.{Numbered, no_more, ◌⨟◌}
use Rattle.laws_progress.proofs.Words.{all_plain}
use Rattle.laws_longest.specs.LongestEnd.{two_digits}
use Rattle.laws_longest.proofs.Language.{At}
use Rattle.laws_longest.proofs.Ends.{Right, some_end, right_later}
use Rattle.laws_longest.proofs.Starts.{left, right, starts, all_pass, at_forward, guard, guard_at, at_first, at_ahead, step_has, step_map}
use Rattle.laws_longest.proofs.Shapes.{one_right, text_right, plus_right, star_right}
use Rattle.laws_longest.proofs.Best.{Picks, picks_found, end_of, Sound, picks_sound}
use Rattle.laws_longest.proofs.Literals.{newline_right, char_lit_right, byte_lit_right}
use Rattle.laws_longest.proofs.Backticks.{backtick_right}
use Rattle.laws_longest.proofs.Families.{ident_right, constructor_right, operator_right, word_then, letter_then, letter_right, table_picks, table_then}

-- ---- what is asked of numbers

-- A suffix begins with no digit of any base.
abbrev pub suffix_like : List ℕ → Bool
suffix_like [] = false
suffix_like (c ∷ cs) = not (is_hex c) && all_plain (c ∷ cs)

-- A number that goes on as an identifier: the pattern of place 27.
abbrev pub bad_number : Bytes → Re
bad_number f = seq (alt integer (alt xinteger (alt ieee64 xieee64))) (at_least_one (chr (is_ident_char f)))

-- What a matcher found reaches k.
abbrev pub Reaches : ℕ → Option ℕ → Type 0
Reaches k m = (e : ℕ) × (m ≡ Some e) × (k ≤ e)

-- The matchers of places 16 to 27, without the test for a digit in front. The longest end of a bad number is what place 27 finds or an
-- integer; so one that place 27 doesn't reach is reached by place 16.
pub record Numbers (s f : Bytes) (i : ℕ) : Type 0 where
  pub int : Right (At s any_integer i) (max_list (any_integer_ends s i))
  pub suffix : (w : String) → suffix_like (codes w) ≡ true → Right (At s (suffixed w) i) (match_int_suffix s i (cps w))
  pub usuffix : (w : String) → all_plain (codes w) ≡ true → Right (At s (usuffixed w) i) (match_int_usuffix s i (cps w))
  pub real : Right (At s (seq floatp (text "R")) i) (match_real s i)
  pub bad : Right (At s (bad_number f) i) (later (match_bad_number s f i) (two_digits s i))
  pub bad_fits : (e : ℕ) → match_bad_number s f i ≡ Some e → At s (bad_number f) i e
  pub bad_reached : (k : ℕ) → At s (bad_number f) i k → Reaches k (match_bad_number s f i) ⊎ Reaches k (max_list (any_integer_ends s i))

-- ---- the tests in front

-- The characters of the fast paths: white space of ASCII, and its line ends.
abbrev pub white_fast : ℕ → Bool
white_fast c = eqb c (ch " ") || (eqb c (ch "\t") || (eqb c 11 || eqb c 12))

-- The line ends.
abbrev pub line_fast : ℕ → Bool
line_fast c = eqb c (ch "\n") || eqb c (ch "\r")

-- Neither fast path is taken.
pub record Slow (s : Bytes) (i : ℕ) : Type 0 where
  pub no_white : char_has white_fast s i ≡ false
  pub no_line : char_has line_fast s i ≡ false

-- A first digit, or a first 0, is a digit.
digit_or_zero : (c : ℕ) → is_digit c || eqb c (ch "0") ≡ true → is_digit c ≡ true
unfolding is_digit
digit_or_zero c = either (is_digit c) (eqb c (ch "0")) (λ t. t) (λ t. rw (eqb-true c (ch "0") t))

-- A mathematical operator is beyond ASCII.
operator_beyond : (f : Bytes) (c : ℕ) → is_uoperator f c ≡ true → leb ascii_limit c ≡ true
unfolding is_uoperator
operator_beyond f c = by_test (λ (b : Bool). b ≡ true → leb ascii_limit c ≡ true) (leb ascii_limit c) (λ t _. t) (λ _ e. absurd (false≢true e))

-- White space that no fast path takes is beyond ASCII.
white_beyond : (f : Bytes) (c : ℕ) → white_fast c ≡ false → is_anywhite f c ≡ true → leb ascii_limit c ≡ true
unfolding is_anywhite
white_beyond f c n t = by_order c ascii_limit (λ l. absurd (ascii l t)) (le-leb ascii_limit c)
  where
    slow : white_fast c ≡ true → ⊥
    slow e = false≢true (sym n ∙ e)

    ascii : c < ascii_limit → is_anywhite f c ≡ true → ⊥
    ascii l =
        by_test (λ (b : Bool). b ≡ true → ⊥) (eqb c (ch " ") || (eqb c (ch "\t") || (eqb c 11 || (eqb c 12 || (eqb c 0xA0 || eqb c 0xFEFF)))))
        (λ e _. either (eqb c (ch " ")) _ (λ x. slow (left _ _ x))
        (either (eqb c (ch "\t")) _ (λ x. slow (right (eqb c (ch " ")) _ (left _ _ x)))
        (either (eqb c 11) _ (λ x. slow (right (eqb c (ch " ")) _ (right (eqb c (ch "\t")) _ (left _ _ x))))
        (either (eqb c 12) _ (λ x. slow (right (eqb c (ch " ")) _ (right (eqb c (ch "\t")) _ (right (eqb c 11) _ x))))
        (either (eqb c 0xA0) _ (λ x. omega (arith, eqb-true c 0xA0 x)) (λ x. omega (arith, eqb-true c 0xFEFF x)))))) e)
        (λ _ e. false≢true (subst (λ (b : Bool). elim b [ true ↦ is_zs f c | false ↦ false ] ≡ true) (lt-leb ascii_limit c l) e))

-- A line end that no fast path takes is beyond ASCII.
newline_beyond : (c : ℕ) → line_fast c ≡ false → eqb c (ch "\r") || is_newline_char c ≡ true → leb ascii_limit c ≡ true
unfolding is_newline_char
newline_beyond c n =
    either (eqb c (ch "\r")) (is_newline_char c) return
    (either (eqb c (ch "\n")) _ (λ x. absurd (slow (left _ _ x)))
    (either (eqb c (ch "\r")) _ return
    (either (eqb c 0x2028) _ (λ x. le-leb ascii_limit c (omega (arith, eqb-true c 0x2028 x))) (λ x. le-leb ascii_limit c (omega (arith, eqb-true c 0x2029 x))))))
  where
    slow : line_fast c ≡ true → ⊥
    slow e = false≢true (sym n ∙ e)

    return : eqb c (ch "\r") ≡ true → leb ascii_limit c ≡ true
    return x = absurd (slow (right (eqb c (ch "\n")) _ x))

-- A test of the character at i is the test of the one that is read there.
pub has_read : (p : ℕ → Bool) (s : Bytes) (i c w : ℕ) → sequence_at s i ≡ Char c w → char_has p s i ≡ p c
unfolding char_has
has_read p s i c w q = rw (q, char_has)

-- ---- the places

module _ (s f : Bytes) (i : ℕ) where
  -- The ends that place k has.
  abbrev pub Has : ℕ → ℕ → Type 0
  Has k e = At s (pattern f k) i e

  -- The ends that the places choose.
  abbrev pub chosen : ℕ → ℕ
  chosen = end_of i (places s f i)

  -- What is shown of place k and its choice.
  pub data Place (k : ℕ) (c : Choice) : Type 0 where
    right_one : Picks (Has k) i k c → Place k c
    special : (k ≡ 7) ⊎ ((k ≡ 8) ⊎ (k ≡ 27)) → (Slow s i → Sound Has chosen i k c) → Place k c

  -- What a place finds is its choice, where its matcher is right.
  simple : (r : Re) {k : ℕ} {m : Option ℕ} → Right (At s r i) m → Picks (At s r i) i k (found i k 0 m)
  simple r h = picks_found 0 (at_forward s r i) h

  -- The same holds with a test in front that each first character passes.
  tested : (p : ℕ → Bool) (r : Re) {k : ℕ} {m : Option ℕ} → nullable r ≡ false → ((c : ℕ) → starts r c ≡ true → p c ≡ true) → Right (At s r i) m
      → Picks (At s r i) i k (found i k 0 (only (char_has p s i) m))
  tested p r n g h = simple r (guard s r i n g h)

  -- Being a given character.
  abbrev is : Letter → ℕ → Bool
  is x c = eqb c (ch x)

  -- It holds of a word after a test for its first character.
  word_place : (x : Letter) (w : String) {k : ℕ} → all_plain (codes w) ≡ true → nullable (text w) ≡ false → ((c : ℕ) → starts (text w) c ≡ true → is x c ≡ true)
      → Picks (At s (text w) i) i k (found i k 0 (only (char_has (is x) s i) (match_lit s (cps w) i)))
  word_place x w p n g = tested (is x) (text w) n g (text_right s w p i)

  -- It holds of an operator of symbols.
  operator_place : (chars : String) {k : ℕ} → all_pass is_op_char (codes chars) ≡ true
      → Picks (At s (seq (one_of chars) symbols) i) i k (found i k 0 (only (char_has is_op_char s i) (one_of_then_symbols s i chars)))
  operator_place chars h = simple (seq (one_of chars) symbols) (operator_right s chars i h)

  -- A word and the symbols after it are the longest operator that begins with it.
  word_symbols : (w : String) → all_plain (codes w) ≡ true → Right (At s (seq (text w) symbols) i) (lit_then_symbols s i w)
  unfolding lit_then_symbols
  word_symbols w p = word_then s w i p (star_right s is_symbolchar)

  -- A character that operators have passes the test for them.
  op_is : (x : Letter) → is_op_char (ch x) ≡ true → (c : ℕ) → is x c ≡ true → is_op_char c ≡ true
  op_is x h c t = ap is_op_char (eqb-true c (ch x) t) ∙ h

  -- The test of place 7 changes nothing where no fast path is taken.
  white_sound : Slow s i → Right (At s (at_least_one (chr (is_anywhite f))) i) (only (char_has (leb ascii_limit) s i) (plus (is_anywhite f) s i))
  white_sound h =
      guard_at s (at_least_one (chr (is_anywhite f))) i refl (λ c w q t. white_beyond f c (sym (has_read white_fast s i c w q) ∙ h.no_white) t)
      (plus_right s (is_anywhite f) i)

  -- That of place 8 doesn't either.
  newline_sound : Slow s i → Right (At s nl i) (only (char_has (leb ascii_limit) s i) (match_newline s i))
  newline_sound h = guard_at s nl i refl (λ c w q t. newline_beyond c (sym (has_read line_fast s i c w q) ∙ h.no_line) t) (newline_right s i)

  module _ (n : Numbers s f i) where
    -- Each first character of a bad number is a digit.
    bad_starts : (c : ℕ) → starts (bad_number f) c ≡ true → is_digit c ≡ true
    bad_starts c =
        either (is_digit c) _ (λ t. t)
        (either (eqb c (ch "0")) _ (λ t. digit_or_zero c (right (is_digit c) _ t))
        (either (is_digit c || is_digit c) _ (either (is_digit c) (is_digit c) (λ t. t) (λ t. t)) (λ t. digit_or_zero c (right (is_digit c) _ t))))

    -- What a matcher reaches, the choice reaches.
    end_found : (k e : ℕ) (m : Option ℕ) → Reaches e m → e ≤ (found i k 0 m).end
    end_found k e (Some x) (y, q, h) = let z : x ≡ y = cc in omega arith
    end_found k e None (y, q, h) = some_end q

    -- Place 27: what it doesn't reach, place 16 does.
    bad_sound : Sound Has chosen i 27 (found i 27 0 (only (char_has is_digit s i) (match_bad_number s f i)))
    unfolding places pattern patterns
    bad_sound = record { fits = fits (match_bad_number s f i) n.bad_fits (char_has is_digit s i); reached = λ e a. reached e a (char_has is_digit s i) (has e a) }
      where
        fits : (m : Option ℕ) → ((e : ℕ) → m ≡ Some e → At s (bad_number f) i e) → (t : Bool) → i < (found i 27 0 (only t m)).end
            → ((found i 27 0 (only t m)).place ≡ 27) × At s (bad_number f) i (found i 27 0 (only t m)).end
        fits (Some e) h true l = (refl, h e refl)
        fits None h true l = absurd (omega arith)
        fits (Some e) h false l = absurd (omega arith)
        fits None h false l = absurd (omega arith)

        has : (e : ℕ) → At s (bad_number f) i e → char_has is_digit s i ≡ true
        has e a = step_has (step_map bad_starts (at_first s (bad_number f) i e a (at_ahead s (bad_number f) i e refl a)).1)

        reached : (e : ℕ) → At s (bad_number f) i e → (t : Bool) → t ≡ true
            → (e ≤ (found i 27 0 (only t (match_bad_number s f i))).end)
            ⊎ ((j : ℕ) × (1 ≤ j) × (j < 27) × (e ≤ chosen j))
        reached e a false q = absurd (false≢true q)
        reached e a true q = go (n.bad_reached e a)
          where
            go : Reaches e (match_bad_number s f i) ⊎ Reaches e (max_list (any_integer_ends s i))
                → (e ≤ (found i 27 0 (match_bad_number s f i)).end) ⊎ ((j : ℕ) × (1 ≤ j) × (j < 27) × (e ≤ chosen j))
            go (inl r) = inl (end_found 27 e (match_bad_number s f i) r)
            go (inr r) = inr (16, omega arith, omega arith, rw (has e a) (end_found 16 e (max_list (any_integer_ends s i)) r))

    -- A number with a suffix is the choice of its place.
    suffix_place : (w : String) {k : ℕ} → suffix_like (codes w) ≡ true
        → Picks (At s (suffixed w) i) i k (found i k 0 (only (char_has is_digit s i) (match_int_suffix s i (cps w))))
    suffix_place w h = tested is_digit (suffixed w) refl digit_or_zero (n.suffix w h)

    -- So is one with a suffix after a u.
    usuffix_place : (w : String) {k : ℕ} → all_plain (codes w) ≡ true
        → Picks (At s (usuffixed w) i) i k (found i k 0 (only (char_has is_digit s i) (match_int_usuffix s i (cps w))))
    usuffix_place w h = tested is_digit (usuffixed w) refl digit_or_zero (n.usuffix w h)

    -- What is asked of each place holds, in their order.
    pub all_places : Numbered Place 1 (places s f i)
    unfolding places pattern patterns early_literals kw_op_rules op_tokens mixfix_rules is_op_char in_table ascii_table count_up mem_cp is_hex is_digit
    all_places =
        right_one (table_picks s i 1 (words_of early_literals) refl)
        ⨟ right_one (tested (is "`") (seq (text "```") (identifier f)) refl (λ c t. t) (word_then s "```" i refl (ident_right s f)))
        ⨟ right_one (tested (is "#") (seq (text "#lang-") (identifier f)) refl (λ c t. t) (word_then s "#lang-" i refl (ident_right s f)))
        ⨟ right_one (word_place "_" "__SOURCE_FILE__" refl refl (λ c t. t))
        ⨟ right_one (word_place "_" "__LINE__" refl refl (λ c t. t))
        ⨟ right_one (word_place "_" "__FILELINE__" refl refl (λ c t. t))
        ⨟ special (inl refl) (λ h. picks_sound Has chosen i (simple (at_least_one (chr (is_anywhite f))) (white_sound h)))
        ⨟ special (inr (inl refl)) (λ h. picks_sound Has chosen i (simple nl (newline_sound h)))
        ⨟ right_one (tested (is "'") (seq (text "'") (seq any_char (text "'"))) refl (λ c t. t) (char_lit_right s i))
        ⨟ right_one (tested (is "'") (seq (text "'") (seq any_char (text "'B"))) refl (λ c t. t) (byte_lit_right s i))
        ⨟ right_one (simple (text "`") (letter_right s (ch "`") i (omega arith)))
        ⨟ right_one (table_then s i (at_least_one (chr is_op_char)) 12 (plus is_op_char s) (plus_right s is_op_char) kw_op_words refl)
        ⨟ right_one (word_place ";" ";;" refl refl (λ c t. t))
        ⨟ right_one (simple (identifier f) (ident_right s f i))
        ⨟ right_one (simple (constructor f) (constructor_right s f i))
        ⨟ right_one (tested is_digit any_integer refl digit_or_zero n.int)
        ⨟ right_one (tested is_digit (alt (usuffixed "y") (suffixed "z")) refl (λ c. either _ _ (digit_or_zero c) (digit_or_zero c)) (right_later (n.usuffix "y" refl) (n.suffix "z" refl)))
        ⨟ right_one (suffix_place "y" refl)
        ⨟ right_one (usuffix_place "s" refl)
        ⨟ right_one (suffix_place "s" refl)
        ⨟ right_one (usuffix_place "l" refl)
        ⨟ right_one (suffix_place "l" refl)
        ⨟ right_one (usuffix_place "L" refl)
        ⨟ right_one (suffix_place "L" refl)
        ⨟ right_one (suffix_place "sz" refl)
        ⨟ right_one (tested is_digit (seq floatp (text "R")) refl (λ c t. t) n.real)
        ⨟ special (inr (inr refl)) (λ _. bad_sound)
        ⨟ right_one (word_place "(" "(*" refl refl (λ c t. t))
        ⨟ right_one (word_place "/" "// IN F*:" refl refl (λ c t. t))
        ⨟ right_one (word_place "/" "//" refl refl (λ c t. t))
        ⨟ right_one (simple (text "\"") (letter_right s (ch "\"") i (omega arith)))
        ⨟ right_one (tested (is "`") (seq (text "``") (seq (at_least_one (alt backtick_free (seq (text "`") backtick_free))) (text "``"))) refl (λ c t. t) (backtick_right s i))
        ⨟ right_one (word_place "<" "<|" refl refl (λ c t. t))
        ⨟ right_one (word_place "|" "|>" refl refl (λ c t. t))
        ⨟ right_one (word_place "." ".." refl refl (λ c t. t))
        ⨟ right_one (table_picks s i 36 (words_of op_tokens) refl)
        ⨟ right_one (tested is_op_char (text "<") refl (op_is "<" refl) (letter_right s (ch "<") i (omega arith)))
        ⨟ right_one (tested is_op_char (seq (text ">") symbols) refl (op_is ">" refl) (letter_then s (ch ">") i (omega arith) (star_right s is_symbolchar (i + 1))))
        ⨟ right_one (tested is_op_char (seq (text "**") symbols) refl (op_is "*" refl) (word_symbols "**" refl))
        ⨟ right_one (tested is_op_char (seq (text "|->") symbols) refl (op_is "|" refl) (word_symbols "|->" refl))
        ⨟ right_one (operator_place "!~?" refl)
        ⨟ right_one (operator_place "|" refl)
        ⨟ right_one (operator_place "&" refl)
        ⨟ right_one (operator_place "=<" refl)
        ⨟ right_one (operator_place "$" refl)
        ⨟ right_one (operator_place "@^" refl)
        ⨟ right_one (operator_place "+-" refl)
        ⨟ right_one (operator_place "*/%" refl)
        ⨟ right_one (tested (leb ascii_limit) (chr (is_uoperator f)) refl (operator_beyond f) (one_right s (is_uoperator f) i))
        ⨟ right_one (table_picks s i 50 (words_of mixfix_rules) refl)
        ⨟ no_more
