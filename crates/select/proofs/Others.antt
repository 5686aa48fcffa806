-- The ASCII characters that no arm of `at_ascii` has: a small letter, a capital, a digit, or one that no place begins with. They are what
-- is left of the 128, which is computed. Rests on the groups.
use Prim.Native.Nat.{ℕ, zero, suc, ◌+◌, ◌≤◌, ◌<◌}
use mathlib.Core.Path.{◌≡◌, refl, sym, ap, ◌∙◌}
use mathlib.Core.Bool.{Bool, true, false, not, ◌&&◌, false≢true}
use mathlib.Core.List.{List, [], ◌∷◌}
use native.Mathlib.Omega.{arith}
use lib.Dec.{eqb}
use borrow.Author.Tests.{eqb-false, ne_eqb}
use Rattle.definition.specs.Basics.{Bytes, mem_cp}
use Rattle.definition.specs.Chars.{count_up, is_lower, is_digit, is_ident_start, is_constructor_start, is_op_char, in_table, ascii_table, is_anywhite, is_newline_char, is_uoperator}
use Rattle.definition.specs.Tables.{early_literals, kw_op_rules, op_tokens, mixfix_rules}
use Rattle.definition.specs.Select.{none_at, places, try_all, select}
use Rattle.definition.specs.Patterns.{patterns}
use Rattle.lemmas.proofs.Cases.{by_test, by_order, both_true}
use Rattle.lemmas.proofs.Members.{all_in, Rest, keys_of, all_own, no_key, some_keys}
use Rattle.select_places.specs.Groups.{at_letter, at_capital, at_digit}
use Rattle.select.specs.Standing.{Ascii, Other, decided}
use Rattle.select.proofs.First.{begins, among}
use Rattle.select.proofs.Standing.{Stands, tried}
use Rattle.select.proofs.Groups.{groups}

-- ---- lists

-- A number from k on, below k + n.
range_listed : (k n c : ℕ) → k ≤ c → c < k + n → mem_cp c (count_up k n) ≡ true
unfolding mem_cp count_up
range_listed k zero c a b = absurd (omega arith)
range_listed k (suc n) c a b =
    by_test (λ (t : Bool). t ≡ true) (eqb k c) (λ _. refl) (λ e. range_listed (suc k) n c (let d = eqb-false k c e in by_order k c (λ l. l) (λ l. absurd (d (omega arith)))) (omega arith))

-- The elements of a list that pass a test.
abbrev passing : (ℕ → Bool) → List ℕ → List ℕ
passing p [] = []
passing p (c ∷ l) = elim (p c) [ true ↦ c ∷ passing p l | false ↦ passing p l ]

-- An element that passes the test is one of them.
passing_listed : (p : ℕ → Bool) (l : List ℕ) (c : ℕ) → mem_cp c l ≡ true → p c ≡ true → mem_cp c (passing p l) ≡ true
unfolding mem_cp
passing_listed p [] c m t = m
passing_listed p (d ∷ l) c m t =
    by_test (λ (m : List ℕ). mem_cp c m ≡ true) (p d)
    (λ _. by_test (λ (b : Bool). b ≡ true) (eqb d c) (λ _. refl) (λ n. passing_listed p l c (later n m) t))
    (λ n. passing_listed p l c (later (ne_eqb d c (λ e. false≢true (sym n ∙ ap p e ∙ t))) m) t)
  where
    later : eqb d c ≡ false → mem_cp c (d ∷ l) ≡ true → mem_cp c l ≡ true
    later n = by_test (λ (b : Bool). b ≡ true → mem_cp c l ≡ true) (eqb d c) (λ e _. absurd (false≢true (sym n ∙ e))) (λ _ r. r)

-- ---- what no arm has

-- Where the arms have the characters that decide by themselves, the last arm has another.
pub other : {s : Bytes} {i c : ℕ} (kss : List (List ℕ)) → all_own kss ≡ true → all_in decided (keys_of kss) ≡ true → Ascii s i c → Rest kss c → Other s i c
other {c = c} kss t u h n = record { ascii = h; none = some_keys decided (keys_of kss) c u (no_key kss c t n) }

-- ---- what is chosen at them

-- The other characters.
abbrev others : List ℕ
others = passing (λ c. not (mem_cp c decided)) (count_up 0 128)

-- One that passes a test stands at i.
narrowed : {s : Bytes} {i c : ℕ} (p : ℕ → Bool) → Other s i c → p c ≡ true → Stands (passing p others) s i
narrowed {c = c} p h t = record {
  code = c;
  read = h.ascii.read;
  listed = passing_listed p others c (passing_listed (λ x. not (mem_cp x decided)) (count_up 0 128) c (range_listed 0 128 c (omega arith) (omega (arith, h.ascii.small))) (ap not h.none)) t;
}

module _ {s : Bytes} (f : Bytes) {i c : ℕ} (h : Other s i c) where
  -- A small letter,
  pub other_letter : is_ident_start c ≡ true → select s f i ≡ at_letter s f i
  unfolding decided count_up mem_cp is_ident_start is_lower
  other_letter t = (groups s f i).letter (narrowed is_ident_start h t)

  -- a capital,
  pub other_capital : is_constructor_start f c ≡ true → select s f i ≡ at_capital s f i
  unfolding decided count_up mem_cp is_constructor_start
  other_capital t = (groups s f i).capital (narrowed (is_constructor_start f) h t)

  -- a digit,
  pub other_digit : is_digit c ≡ true → select s f i ≡ at_digit s f i
  unfolding decided count_up mem_cp is_digit
  other_digit t = (groups s f i).digit (narrowed is_digit h t)

  -- or a character that no place begins with.
  pub other_none : is_ident_start c ≡ false → is_constructor_start f c ≡ false → is_digit c ≡ false → select s f i ≡ none_at i
  unfolding decided count_up mem_cp begins among places try_all patterns early_literals kw_op_rules op_tokens mixfix_rules is_digit is_lower is_ident_start is_constructor_start is_op_char in_table ascii_table is_anywhite is_newline_char is_uoperator
  other_none a b d =
      let p : ℕ → Bool = λ x. not (is_ident_start x) && (not (is_constructor_start f x) && not (is_digit x)) in
      tried (narrowed p h (both_true _ _ (ap not a) (both_true _ _ (ap not b) (ap not d)))) f [] refl
