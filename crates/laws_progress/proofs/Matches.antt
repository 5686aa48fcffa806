-- Each matcher's end is after its start, within the text, and on a character again. Rests on the laws of walks and on
-- those of matchers put together.
use Rattle.std.specs.Prelude.{Option, Some, None}
use Prim.Native.Nat.{ℕ, ◌+◌, ◌<◌}
use Prim.Native.Char.{Char as Letter}
use mathlib.Core.Path.{◌≡◌, refl, subst}
use mathlib.Core.Bool.{Bool, true, false, not, ◌&&◌, ◌||◌, false≢true}
use mathlib.Core.List.{List, [], ◌∷◌}
use native.Mathlib.Omega.{arith}
use lib.Dec.{ltb, eqb}
use borrow.Author.Tests.{ltb-true, eqb-true}
use Rattle.definition.specs.Basics.{Bytes, Turn, fuel, ch, codes, mem_cp, between}
use Rattle.definition.specs.Utf8.{sequence_at}
use Rattle.definition.specs.Text.{with_char, char_has, byte_has, byte_is, star}
use Rattle.definition.specs.Chars.{is_digit, is_hex, is_ident_start, is_constructor_start, is_ident_char, is_newline_char}
use Rattle.definition.specs.Tables.{cps}
use Rattle.definition.specs.Matchers.{
  ◌then◌,
  max_list,
  only,
  one,
  match_lit,
  plus,
  match_newline,
  match_ident,
  match_constructor,
  match_escape,
  match_char,
  match_char_lit,
  match_integer,
  match_xinteger,
  any_integer_ends,
  match_int_suffix,
  match_int_usuffix,
  match_floatp,
  skip_sign,
  is_e,
  match_floate,
  match_real,
  match_bad_number,
  backtick_turn,
  match_backtick_ident,
}
use Rattle.definition.specs.declared.Sequence.{Sequence}
use Rattle.definition.specs.declared.Sequence.TheVariants.{Char, Bad, End}
use Rattle.lemmas.proofs.Cases.{by_test, by_if, by_match, both, between_true, either}
use Rattle.lemmas.proofs.Loops.{Leads, leads_map, loop_keeps}
use Rattle.laws_progress.proofs.Walks.{
  Walk,
  here,
  Onward,
  walk_walk,
  onward_walk,
  walk_onward,
  onward_onward,
  char_onward,
  byte_onward,
  char_onward_one,
  star_walks,
}
use Rattle.laws_progress.proofs.Ends.{Ends, ends_nothing, ends_to, ends_map, ends_then, ends_only, ends_if, ends_later, ends_max}
use Rattle.lemmas.proofs.Each.{Each, none_left, ◌⨾◌, each_map}

-- ---- tests that only ASCII passes

-- a test passes ASCII alone
abbrev pub Small : (ℕ → Bool) → Type 0
Small p = (b : ℕ) → p b ≡ true → b < 0x80

-- being one character of ASCII
pub small_is : (x : ℕ) → x < 0x80 → Small (λ b. eqb b x)
small_is x h b e = omega (arith, eqb-true b x e)

-- being one of two
pub small_or : {p q : ℕ → Bool} → Small p → Small q → Small (λ b. p b || q b)
small_or {p} {q} f g b = either (p b) (q b) (f b) (g b)

-- lying between two
pub small_between : (x y : ℕ) → y < 0x80 → Small (between x y)
small_between x y h b e = omega (arith, (between_true x y b e).1)

-- being one of a list of ASCII
abbrev all_small : List ℕ → Bool
all_small [] = true
all_small (c ∷ l) = ltb c 0x80 && all_small l

-- then the test is one of ASCII
pub small_mem : (l : List ℕ) → all_small l ≡ true → Small (λ b. mem_cp b l)
unfolding mem_cp
small_mem [] h b e = absurd (false≢true e)
small_mem (c ∷ l) h b e =
    let k = both (ltb c 0x80) (all_small l) h in
    by_test (λ t. t ≡ true → b < 0x80) (eqb c b)
    (λ q _. omega (arith, eqb-true c b q, ltb-true c 0x80 k.0))
    (λ _ r. small_mem l k.1 b r)
    e

-- the source's tests
pub small_digit : Small is_digit
unfolding is_digit
small_digit = small_between (ch "0") (ch "9") (omega arith)

-- a hexadecimal digit
pub small_hex : Small is_hex
unfolding is_hex
small_hex = small_or small_digit (small_or (small_between (ch "A") (ch "F") (omega arith)) (small_between (ch "a") (ch "f") (omega arith)))

-- ---- characters and bytes

module _ (s : Bytes) where
  -- one character
  pub one_ends : (p : ℕ → Bool) (i : ℕ) → Ends (Onward s i) (one p s i)
  unfolding one
  one_ends p i = go (sequence_at s i) refl
    where
      go : (q : Sequence) → sequence_at s i ≡ q → Ends (Onward s i) (with_char q i (λ c j. elim (p c) [ true ↦ Some j | false ↦ None ]) None)
      go (Char c w) q = by_test (Ends (Onward s i)) (p c) (λ _. ends_to (char_onward q)) (λ _. ends_nothing)
      go Bad q = ends_nothing
      go End q = ends_nothing

  -- one byte that is a given character of ASCII
  pub byte_is_onward : (x i : ℕ) → x < 0x80 → byte_is x s i ≡ true → Onward s i (i + 1)
  byte_is_onward x i h e = byte_onward (λ b. eqb b x) s i (small_is x h) e

  -- one more byte of ASCII after the k bytes from i on
  pub byte_more : {p : ℕ → Bool} → Small p → (i k n : ℕ) → n ≡ k + 1 → Onward s i (i + k) → byte_has p s (i + k) ≡ true → Onward s i (i + n)
  byte_more {p} small i k n q o e =
      let r : i + k + 1 ≡ i + n = omega arith in
      subst (Onward s i) r (onward_onward o (byte_onward p s (i + k) small e))

  -- a matcher and then a run
  pub then_star : (p : ℕ → Bool) {i : ℕ} {m : Option ℕ} → Ends (Onward s i) m → Ends (Onward s i) (m then λ j. Some (star p s j))
  then_star p h = ends_then h (λ j o. ends_to (onward_walk o (star_walks p s j)))

  -- what is found after a walk is found from its start
  pub after_walk : {i j : ℕ} {m : Option ℕ} → Walk s i j → Ends (Onward s j) m → Ends (Onward s i) m
  after_walk u h = ends_map (λ e o. walk_onward u o) h

  -- ---- the source's matchers

  -- `plus`
  pub plus_ends : (p : ℕ → Bool) (i : ℕ) → Ends (Onward s i) (plus p s i)
  unfolding plus
  plus_ends p i = then_star p (one_ends p i)

  -- a newline, of one character or of two
  pub newline_ends : (i : ℕ) → Ends (Onward s i) (match_newline s i)
  unfolding match_newline
  newline_ends i =
      by_test (Ends (Onward s i)) (char_has (λ c. eqb c (ch "\r")) s i && byte_is (ch "\n") s (i + 1))
      (λ t. let h = both (char_has (λ c. eqb c (ch "\r")) s i) (byte_is (ch "\n") s (i + 1)) t in
      ends_to (byte_more (small_is (ch "\n") (omega arith)) i 1 2 refl (char_onward_one _ s i (small_is (ch "\r") (omega arith)) h.0) h.1))
      (λ _. one_ends is_newline_char i)

  -- an identifier
  pub ident_ends : (f : Bytes) (i : ℕ) → Ends (Onward s i) (match_ident s f i)
  unfolding match_ident
  ident_ends f i = then_star (is_ident_char f) (one_ends is_ident_start i)

  -- a constructor
  pub constructor_ends : (f : Bytes) (i : ℕ) → Ends (Onward s i) (match_constructor s f i)
  unfolding match_constructor
  constructor_ends f i = then_star (is_ident_char f) (one_ends (is_constructor_start f) i)

  -- an escape: a backslash, a letter, and no, two or four hexadecimal digits
  pub escape_ends : (i : ℕ) → Ends (Onward s i) (match_escape s i)
  unfolding match_escape
  escape_ends i = ends_only (byte_is (ch "\\") s i) λ t.
      let o = byte_is_onward (ch "\\") i (omega arith) t in
      ends_if _ (λ h. ends_to (byte_more (small_mem (codes "\\\"'bfntrv0") refl) i 1 2 refl o h))
      (ends_if _ (λ h. ends_to (let x = both _ _ h in hexes 2 (more "x" (omega arith) o x.0) x.1))
      (ends_if _ (λ h. ends_to (let u = both _ _ h in let v = both _ _ u.1 in let w = both _ _ v.1 in
      hexes 4 (hex 3 (hex 2 (more "u" (omega arith) o u.0) v.0) w.0) w.1)) ends_nothing))
    where
      -- the letter after the backslash
      more : (x : Letter) → ch x < 0x80 → Onward s i (i + 1) → byte_is (ch x) s (i + 1) ≡ true → Onward s i (i + 2)
      more x h o e = byte_more (small_is (ch x) h) i 1 2 refl o e

      -- one hexadecimal digit, and two
      hex : (k : ℕ) → Onward s i (i + k) → byte_has is_hex s (i + k) ≡ true → Onward s i (i + (k + 1))
      hex k o e = byte_more small_hex i k (k + 1) refl o e

      hexes : (k : ℕ) → Onward s i (i + k) → byte_has is_hex s (i + k) && byte_has is_hex s (i + (k + 1)) ≡ true → Onward s i (i + (k + 1 + 1))
      hexes k o e = let h = both _ _ e in hex (k + 1) (hex k o h.0) h.1

  -- a character, or an escape
  pub char_ends : (i : ℕ) → Ends (Onward s i) (match_char s i)
  unfolding match_char
  char_ends i = go (sequence_at s i) refl
    where
      go : (q : Sequence) → sequence_at s i ≡ q
          → Ends (Onward s i) (with_char q i (λ c j. elim (eqb c (ch "\\")) [ true ↦ match_escape s i | false ↦ Some j ]) None)
      go (Char c w) q = by_test (Ends (Onward s i)) (eqb c (ch "\\")) (λ _. escape_ends i) (λ _. ends_to (char_onward q))
      go Bad q = ends_nothing
      go End q = ends_nothing

  -- a character between quotes
  pub char_lit_ends : (i : ℕ) (with_b : Bool) → Ends (Onward s i) (match_char_lit s i with_b)
  unfolding match_char_lit
  char_lit_ends i with_b =
      ends_only (byte_is (ch "'") s i) λ t.
      ends_then (after_walk (byte_is_onward (ch "'") i (omega arith) t).walk (char_ends (i + 1))) λ j o.
      ends_only (byte_is (ch "'") s j) λ h.
      let q = byte_is_onward (ch "'") j (omega arith) h in
      ends_if with_b
      (λ _. ends_only (byte_is (ch "B") s (j + 1)) λ b. ends_to (onward_onward o (byte_more (small_is (ch "B") (omega arith)) j 1 2 refl q b)))
      (ends_to (onward_onward o q))

  -- ---- numbers

  -- digits
  pub integer_ends : (i : ℕ) → Ends (Onward s i) (match_integer s i)
  unfolding match_integer
  integer_ends i = plus_ends is_digit i

  -- a 0, a letter of two, and digits
  pub xinteger_ends : (i : ℕ) → Ends (Onward s i) (match_xinteger s i)
  unfolding match_xinteger
  xinteger_ends i = ends_only (byte_is (ch "0") s i) λ t.
      let o = byte_is_onward (ch "0") i (omega arith) t in
      ends_if _ (λ h. based _ (ch "x") (ch "X") (omega arith) (omega arith) o h)
      (ends_if _ (λ h. based _ (ch "o") (ch "O") (omega arith) (omega arith) o h)
      (ends_if _ (λ h. based _ (ch "b") (ch "B") (omega arith) (omega arith) o h) ends_nothing))
    where
      based : (p : ℕ → Bool) (a b : ℕ) → a < 0x80 → b < 0x80 → Onward s i (i + 1) → byte_has (λ c. eqb c a || eqb c b) s (i + 1) ≡ true
          → Ends (Onward s i) (plus p s (i + 2))
      based p a b h k o e = after_walk (byte_more (small_or (small_is a h) (small_is b k)) i 1 2 refl o e).walk (plus_ends p (i + 2))

  -- a number in any base
  any_integer_each : (i : ℕ) → Each (Ends (Onward s i)) (any_integer_ends s i)
  unfolding any_integer_ends
  any_integer_each i = integer_ends i ⨾ xinteger_ends i ⨾ none_left

  -- the longest of them
  pub any_integer_max : (i : ℕ) → Ends (Onward s i) (max_list (any_integer_ends s i))
  any_integer_max i = ends_max (any_integer_each i)

  -- a word that stands in the text is a walk
  abbrev pub Lettered : Bytes → Type 0
  Lettered w = (j : ℕ) → Ends (Walk s j) (match_lit s w j)

  -- a number with a suffix
  pub int_suffix_ends : (i : ℕ) (w : Bytes) → Lettered w → Ends (Onward s i) (match_int_suffix s i w)
  unfolding match_int_suffix
  int_suffix_ends i w l = ends_max (each_map _ (λ m h. ends_then h (λ j o. ends_map (λ e u. onward_walk o u) (l j))) (any_integer_each i))

  -- a number with a suffix after a u
  pub int_usuffix_ends : (i : ℕ) (w : Bytes) → Lettered w → Ends (Onward s i) (match_int_usuffix s i w)
  unfolding match_int_usuffix
  int_usuffix_ends i w l = ends_max (each_map _ (λ m h. ends_then h λ j o. ends_only _ λ t.
      let u = onward_onward o (byte_onward _ s j (small_or (small_is (ch "u") (omega arith)) (small_is (ch "U") (omega arith))) t) in
      ends_map (λ e v. onward_walk u v) (l (j + 1))) (any_integer_each i))

  -- the offset after an optional sign
  sign_walks : (k : ℕ) → Walk s k (skip_sign s k)
  unfolding skip_sign
  sign_walks k = by_if (Walk s k) _ (λ t. (byte_onward _ s k (small_or (small_is (ch "+") (omega arith)) (small_is (ch "-") (omega arith))) t).walk) (λ _. here refl)

  -- the letter of an exponent
  small_e : Small is_e
  unfolding is_e
  small_e = small_or (small_is (ch "e") (omega arith)) (small_is (ch "E") (omega arith))

  -- the offset after the letter of an exponent and its sign
  exponent_walks : (k : ℕ) → byte_has is_e s k ≡ true → Onward s k (skip_sign s (k + 1))
  exponent_walks k t = onward_walk (byte_onward is_e s k small_e t) (sign_walks (k + 1))

  -- a number with a point
  pub floatp_ends : (i : ℕ) → Ends (Onward s i) (match_floatp s i)
  unfolding match_floatp
  floatp_ends i = ends_then (integer_ends i) λ j o. ends_only (byte_is (ch ".") s j) λ t.
      ends_to (onward_walk (onward_onward o (byte_is_onward (ch ".") j (omega arith) t)) (star_walks is_digit s (j + 1)))

  -- a number with an exponent
  pub floate_ends : (i : ℕ) → Ends (Onward s i) (match_floate s i)
  unfolding match_floate
  floate_ends i = ends_then (integer_ends i) λ j o.
      ends_later (exp o.walk) (ends_only (byte_is (ch ".") s j) λ t.
      exp (onward_walk (onward_onward o (byte_is_onward (ch ".") j (omega arith) t)) (star_walks is_digit s (j + 1))).walk)
    where
      exp : {k : ℕ} → Walk s i k → Ends (Onward s i) (only (byte_has is_e s k) (match_integer s (skip_sign s (k + 1))))
      exp {k} u = ends_only (byte_has is_e s k) λ t. after_walk (walk_walk u (exponent_walks k t).walk) (integer_ends (skip_sign s (k + 1)))

  -- a real number
  pub real_ends : (i : ℕ) → Ends (Onward s i) (match_real s i)
  unfolding match_real
  real_ends i = ends_then (floatp_ends i) λ j o. ends_only (byte_is (ch "R") s j) λ t.
      ends_to (onward_onward o (byte_is_onward (ch "R") j (omega arith) t))

  -- a number that goes on as an identifier
  pub bad_number_ends : (f : Bytes) (i : ℕ) → Lettered (cps "LF") → Ends (Onward s i) (match_bad_number s f i)
  unfolding match_bad_number
  bad_number_ends f i l =
      ends_max (each_map {P = Ends (Onward s i)} _ (λ m h. ends_then h (λ j o. after_walk o.walk (plus_ends (is_ident_char f) j)))
      (integer_ends i ⨾ xinteger_ends i ⨾ floatp_ends i ⨾ floate_ends i
      ⨾ ends_then (xinteger_ends i) (λ j o. ends_map (λ e u. onward_walk o u) (l j))
      ⨾ dot
      ⨾ ends_later (ends_then (integer_ends i) (λ j o. exp o)) (ends_then dot (λ j o. exp (onward_walk o (star_walks is_digit s j))))
      ⨾ none_left))
    where
      dot : Ends (Onward s i) (match_integer s i then λ j. only (byte_is (ch ".") s j) (Some (j + 1)))
      dot = ends_then (integer_ends i) λ j o. ends_only (byte_is (ch ".") s j) λ t. ends_to (onward_onward o (byte_is_onward (ch ".") j (omega arith) t))

      exp : {k : ℕ} → Onward s i k → Ends (Onward s i) (only (byte_has is_e s k) (only (byte_has is_digit s (skip_sign s (k + 1))) (Some (skip_sign s (k + 1) + 1))))
      exp {k} o = ends_only (byte_has is_e s k) λ t. ends_only (byte_has is_digit s (skip_sign s (k + 1))) λ d.
          ends_to (onward_onward (onward_onward o (exponent_walks k t)) (byte_onward is_digit s _ small_digit d))

  -- ---- names in backticks

  -- two backticks
  abbrev two_ticks : ℕ → Bool
  two_ticks j = byte_is (ch "`") s j && byte_is (ch "`") s (j + 1)

  -- a turn moves on, or finds an end after what it stands at
  pub backtick_leads : (j n : ℕ) → Leads (λ b. Onward s j b.0) (Ends (Onward s j)) (backtick_turn s (j, n))
  backtick_leads j n =
      let ok : ℕ → Bool = λ c. not (eqb c (ch "`")) && not (is_newline_char c) in
      let L : Turn (ℕ × ℕ) (Option ℕ) → Type 0 = Leads (λ b. Onward s j b.0) (Ends (Onward s j)) in
      by_match L (one ok s j) (λ k q. (one_ends ok j).at q) λ _.
      by_match L (only (byte_is (ch "`") s j) (one ok s (j + 1)))
      (λ k q. (ends_only (byte_is (ch "`") s j) (λ t. after_walk (byte_is_onward (ch "`") j (omega arith) t).walk (one_ends ok (j + 1)))).at q) λ _.
      ends_only (ltb 0 n && two_ticks j) λ t.
      let h = both _ _ (both (ltb 0 n) (two_ticks j) t).1 in
      ends_to (byte_more (small_is (ch "`") (omega arith)) j 1 2 refl (byte_is_onward (ch "`") j (omega arith) h.0) h.1)

  -- a name in backticks
  pub backtick_ends : (i : ℕ) → Ends (Onward s i) (match_backtick_ident s i)
  unfolding match_backtick_ident
  backtick_ends i = ends_only (two_ticks i) λ t.
      let h = both _ _ t in
      let o = byte_more (small_is (ch "`") (omega arith)) i 1 2 refl (byte_is_onward (ch "`") i (omega arith) h.0) h.1 in
      loop_keeps (backtick_turn s) (λ a. Onward s i a.0) (Ends (Onward s i)) (λ a. None)
      (λ a p. leads_map (λ b r. onward_onward p r) (λ m r. ends_map (λ e q. onward_onward p q) r) (backtick_turn s a) (backtick_leads a.0 a.1))
      (λ a p. ends_nothing) (fuel s) (i + 2, 0) o
