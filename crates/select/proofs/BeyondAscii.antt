-- What `select` chooses at a character beyond ASCII: six places may begin with one, one of them with ∀ and ∃ alone, and each reads it
-- once. Rests on the law of first characters.
use Rattle.std.specs.Prelude.{Option, Some}
use Prim.Native.Nat.{ℕ, ◌+◌, ◌≤◌}
use mathlib.Core.Path.{◌≡◌, refl, sym, ap, ◌∙◌}
use mathlib.Core.Bool.{Bool, true, false, ◌&&◌, false≢true}
use mathlib.Core.List.{List, [], ◌∷◌}
use native.Mathlib.Omega.{arith}
use lib.Dec.{eqb, ltb, leb}
use borrow.Author.Tests.{eqb-true, ne_eqb, lt-leb, le-leb, ltb-true}
use Rattle.definition.specs.Basics.{Bytes, ch, mem_cp}
use Rattle.definition.specs.Utf8.{sequence_at}
use Rattle.definition.specs.Text.{char_has, byte_is, star}
use Rattle.definition.specs.Chars.{ascii_limit, is_digit, is_ident_start, is_constructor_start, is_ident_char, is_anywhite, is_newline_char, is_uoperator}
use Rattle.definition.specs.Tables.{early_literals, kw_op_rules, op_tokens, mixfix_rules}
use Rattle.definition.specs.Matchers.{◌then◌, only, one, plus, match_newline, match_ident, match_constructor}
use Rattle.definition.specs.Select.{none_at, keep, found, places, try_all, select}
use Rattle.definition.specs.Patterns.{patterns}
use Rattle.definition.specs.declared.Choice.{Choice}
use Rattle.definition.specs.declared.Sequence.TheVariants.{Char}
use Rattle.lemmas.proofs.Cases.{by_test, both}
use Rattle.laws_longest.proofs.Starts.{all_pass}
use Rattle.laws_longest.proofs.Places.{has_read}
use Rattle.select_places.specs.Groups.{keyword, alone, ◌or◌, at_beyond_ascii}
use Rattle.select.proofs.First.{keep_forward, keep_best, begins, among, select_among}
use Rattle.select.proofs.Standing.{one_read}

-- ---- which places may begin with it

module _ (c : ℕ) (h : 128 ≤ c) where
  -- It is no ASCII character,
  not_ascii : (a : ℕ) → ltb a 128 ≡ true → eqb c a ≡ false
  not_ascii a t = ne_eqb c a (λ e. omega (arith, ltb-true a 128 t))

  -- none of a list of them,
  not_listed : (l : List ℕ) → all_pass (λ a. ltb a 128) l ≡ true → mem_cp c l ≡ false
  unfolding mem_cp
  not_listed [] t = refl
  not_listed (a ∷ l) t =
      let b = both (ltb a 128) (all_pass (λ a. ltb a 128) l) t in
      by_test (λ (x : Bool). x ≡ false) (eqb a c) (λ e. absurd (omega (arith, eqb-true a c e, ltb-true a 128 b.0))) (λ _. not_listed l b.1)

  -- and no digit.
  not_digit : is_digit c ≡ false
  unfolding is_digit
  not_digit = simp (le-leb (ch "0") c (omega arith), lt-leb c (ch "9") (omega arith))

  -- So only six places may begin with it.
  six_places : (f : Bytes) → begins f (7 ∷ 8 ∷ 12 ∷ 14 ∷ 15 ∷ 49 ∷ []) c ≡ true
  unfolding begins patterns early_literals kw_op_rules op_tokens mixfix_rules mem_cp
  six_places f = simp (not_ascii, not_listed, not_digit)

  -- Where it is neither ∀ nor ∃, no keyword operator does.
  five_places : (f : Bytes) → eqb c 0x2200 ≡ false → eqb c 0x2203 ≡ false → begins f (7 ∷ 8 ∷ 14 ∷ 15 ∷ 49 ∷ []) c ≡ true
  unfolding begins patterns early_literals kw_op_rules op_tokens mixfix_rules mem_cp
  five_places f a b = simp (not_ascii, not_listed, not_digit, a, b)

-- ---- what they find

-- A run after one character that passes its test.
one_then : (t : Bool) (j : ℕ) (g : ℕ → ℕ) → (only t (Some j) then λ e. Some (g e)) ≡ only t (Some (g j))
one_then true j g = refl
one_then false j g = refl

module _ (s f : Bytes) (i c w : ℕ) (q : sequence_at s i ≡ Char c w) where
  -- A run from the character on, of another test after the first.
  run : (p g : ℕ → Bool) → (one p s i then λ j. Some (star g s j)) ≡ only (p c) (Some (star g s (i + w)))
  run p g = ap (λ (m : Option ℕ). m then λ j. Some (star g s j)) (one_read p s i c w q) ∙ one_then (p c) (i + w) (star g s)

  -- A line end beyond ASCII is one character.
  newline : 128 ≤ c → match_newline s i ≡ only (is_newline_char c) (Some (i + w))
  unfolding match_newline
  newline h =
      let e : char_has (λ c. eqb c (ch "\r")) s i ≡ false = has_read (λ c. eqb c (ch "\r")) s i c w q ∙ not_ascii c h (ch "\r") refl in
      by_test (λ (m : Option ℕ). m ≡ only (is_newline_char c) (Some (i + w)))
      (char_has (λ c. eqb c (ch "\r")) s i && byte_is (ch "\n") s (i + 1))
      (λ t. absurd (false≢true (sym e ∙ (both _ _ t).0)))
      (λ _. one_read is_newline_char s i c w q)

  -- The best of places 7 and 8.
  abbrev white_or_line : Choice
  white_or_line = alone i 7 (only (is_anywhite f c) (Some (star (is_anywhite f) s (i + w)))) or found i 8 0 (only (is_newline_char c) (Some (i + w)))

  -- The best of them, of a choice for place 12 and of the three that follow.
  abbrev with_keyword : Choice → Choice
  with_keyword k =
      white_or_line or k
      or found i 14 0 (only (is_ident_start c) (Some (star (is_ident_char f) s (i + w))))
      or found i 15 0 (only (is_constructor_start f c) (Some (star (is_ident_char f) s (i + w))))
      or found i 49 0 (only (is_uoperator f c) (Some (i + w)))

  -- Nothing at place 12 changes nothing.
  no_keyword : keep white_or_line (none_at i) ≡ white_or_line
  no_keyword =
      let first = alone i 7 (only (is_anywhite f c) (Some (star (is_anywhite f) s (i + w)))) in
      let a = keep_forward (none_at i) (found i 7 0 (only (is_anywhite f c) (Some (star (is_anywhite f) s (i + w))))) in
      let b = keep_forward first (found i 8 0 (only (is_newline_char c) (Some (i + w)))) in
      keep_best white_or_line (none_at i) (omega (arith, a, b))

  -- What is chosen where keyword operators are tried,
  tried : 128 ≤ c → select s f i ≡ with_keyword (keyword s i)
  unfolding among places try_all mem_cp plus match_ident match_constructor
  tried h =
      select_among s f i (7 ∷ 8 ∷ 12 ∷ 14 ∷ 15 ∷ 49 ∷ []) c w q (six_places c h f)
      ∙ rw (
        has_read (leb ascii_limit) s i c w q ∙ le-leb ascii_limit c h,
        run (is_anywhite f) (is_anywhite f),
        newline h,
        run is_ident_start (is_ident_char f),
        run (is_constructor_start f) (is_ident_char f),
        one_read (is_uoperator f) s i c w q,
      )

  -- and where they aren't, at any character but ∀ and ∃.
  untried : 128 ≤ c → eqb c 0x2200 ≡ false → eqb c 0x2203 ≡ false → select s f i ≡ with_keyword (none_at i)
  unfolding among places try_all mem_cp plus match_ident match_constructor
  untried h a b =
      select_among s f i (7 ∷ 8 ∷ 14 ∷ 15 ∷ 49 ∷ []) c w q (five_places c h f a b)
      ∙ rw (
        no_keyword,
        has_read (leb ascii_limit) s i c w q ∙ le-leb ascii_limit c h,
        run (is_anywhite f) (is_anywhite f),
        newline h,
        run is_ident_start (is_ident_char f),
        run (is_constructor_start f) (is_ident_char f),
        one_read (is_uoperator f) s i c w q,
      )

  -- What is chosen at a character beyond ASCII.
  pub beyond_ascii : 128 ≤ c → select s f i ≡ at_beyond_ascii s f i c (i + w)
  beyond_ascii h =
      by_test (λ (k : Choice). select s f i ≡ with_keyword k) (eqb c 0x2200) (λ _. tried h) λ a.
      by_test (λ (k : Choice). select s f i ≡ with_keyword k) (eqb c 0x2203) (λ _. tried h) (untried h a)
