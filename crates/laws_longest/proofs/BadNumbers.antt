-- A number that goes on as an identifier: what its matcher finds is an end of the pattern, and every end of the pattern is reached by
-- it or by an integer of two digits or more. For `12` the pattern fits too, as 1 and then 2, and the matcher finds nothing: there the
-- integer reaches as far.
-- "Since digits are ident chars, the shortest float matches are the relevant ones": after the shortest part of a number with a point
-- or an exponent, digits are the first characters of the identifier. Rests on integers and on the shortest parts.
use Rattle.std.specs.Prelude.{Option, Some, None}
use Prim.Native.Nat.{ℕ, zero, suc, ◌≤◌, ◌<◌}
use mathlib.Core.Path.{◌≡◌, refl, sym, subst}
use mathlib.Core.Bool.{Bool, true, false, ◌||◌}
use mathlib.Core.List.{List, [], ◌∷◌}
use mathlib.Core.Logic.{◌⊎◌, inl, inr, ⊎_elim}
use native.Mathlib.Omega.{arith}
use lib.Dec.{eqb}
use lib.ListN.{get_or}
use borrow.Author.Tests.{eqb-true, lt-ltb}
use Rattle.definition.specs.Basics.{Bytes, ch, codes, mem_cp, between}
use Rattle.definition.specs.Chars.{is_digit, is_hex, is_ident_char}
use Rattle.definition.specs.Matchers.{◌then◌, later, max_list, plus, match_integer, any_integer_ends, match_bad_number}
use Rattle.definition.specs.Regex.{Re, eps, chr, seq, alt, many, at_least_one}
use Rattle.definition.specs.Samples.{nullable}
use Rattle.definition.specs.Patterns.{integer, xinteger, floatp, floate, ieee64, xieee64}
use Rattle.lemmas.proofs.Cases.{by_order}
use Rattle.lemmas.proofs.Cases.{either}
use Rattle.laws_progress.proofs.Matches.{small_hex}
use Rattle.lemmas.proofs.Each.{none_left, ◌⨾◌, each_map}
use Rattle.laws_progress.proofs.Ends.{Ends as Each_end, ends_then, ends_later, ends_max}
use Rattle.laws_longest.proofs.Language.{Step, Chain, stop, step, At}
use Rattle.laws_longest.specs.LongestEnd.{two_digits}
use Rattle.laws_longest.proofs.Ends.{Right, Single, single_found, right_later, right_then}
use Rattle.laws_longest.proofs.Starts.{left, right, step_on, step_same, step_map, chain_forward, at_ahead, at_single, listed_passes}
use Rattle.laws_longest.proofs.Shapes.{one_right, text_right, plus_right}
use Rattle.laws_longest.proofs.Places.{bad_number, Reaches}
use Rattle.laws_longest.proofs.Integers.{between_wider, digit_hex, octal_hex, integer_right, xinteger_right, any_integer_right}
use Rattle.laws_longest.proofs.Floats.{pointed, scientific, match_pointed, match_short, floatp_right, floate_right, pointed_right, pointed_single, short_right, short_single}

-- ---- runs

-- Every character of an expression passes a test.
abbrev pub Within : (ℕ → Bool) → Re → Type 0
Within p eps = Unit
Within p (chr q) = (c : ℕ) → q c ≡ true → p c ≡ true
Within p (seq r q) = Within p r × Within p q
Within p (alt r q) = Within p r × Within p q
Within p (many r) = Within p r

-- Steps and others after them are steps in a row.
chain_join : {P : ℕ → ℕ → Type 0} {i j k : ℕ} → Chain P i j → Chain P j k → Chain P i k
chain_join {P} {k = k} (stop q) d = subst (λ (x : ℕ). Chain P x k) (sym q) d
chain_join (step m a c) d = step m a (chain_join c d)

-- Steps each of which is steps in a row are steps in a row.
chain_flat : {P Q : ℕ → ℕ → Type 0} → ((i e : ℕ) → P i e → Chain Q i e) → {i e : ℕ} → Chain P i e → Chain Q i e
chain_flat f (stop q) = stop q
chain_flat f {i} (step m a c) = chain_join (f i m a) (chain_flat f c)

module _ (s : Bytes) (p : ℕ → Bool) where
  -- Such an expression leads along a run.
  at_run : (r : Re) → Within p r → (i e : ℕ) → At s r i e → Chain (Step s p) i e
  at_run eps w i e h = stop h
  at_run (chr q) w i e h = step e (step_map w h) (stop refl)
  at_run (seq r q) w i e (m, a, b) = chain_join (at_run r w.0 i m a) (at_run q w.1 m e b)
  at_run (alt r q) w i e (inl h) = at_run r w.0 i e h
  at_run (alt r q) w i e (inr h) = at_run q w.1 i e h
  at_run (many r) w i e h = chain_flat (at_run r w) h

  -- No run leads back.
  run_forward : {i e : ℕ} → Chain (Step s p) i e → i ≤ e
  run_forward c = chain_forward s (λ i e t. omega (arith, (step_on t).0)) c

  -- One that leads on leads past the first character.
  run_first : {q : ℕ → Bool} {i j e : ℕ} → Step s q i j → Chain (Step s p) i e → i < e → j ≤ e
  run_first a (stop q) h = absurd (omega arith)
  run_first a (step m b c) h = omega (arith, (step_same a b).0, run_forward c)

  -- Of two runs from one offset the longer one goes on where the shorter ends.
  run_rest : {i j k : ℕ} → Chain (Step s p) i j → Chain (Step s p) i k → j < k → Chain (Step s p) j k
  run_rest {k = k} (stop q) d h = subst (λ (x : ℕ). Chain (Step s p) x k) q d
  run_rest (step m a c) (stop q) h = absurd (omega (arith, (step_on a).0, run_forward c))
  run_rest {k = k} (step m a c) (step n b d) h = run_rest c (subst (λ (x : ℕ). Chain (Step s p) x k) (step_same b a).0 d) h

  -- A run that leads on has a character or more.
  run_some : {i e : ℕ} → Chain (Step s p) i e → i < e → At s (at_least_one (chr p)) i e
  run_some (stop q) h = absurd (omega arith)
  run_some (step m a c) h = (m, a, c)

-- ---- characters of identifiers

-- A character that is a given one passes each test that the given one passes.
is_passes : (p : ℕ → Bool) (a : ℕ) → p a ≡ true → (c : ℕ) → eqb c a ≡ true → p c ≡ true
is_passes p a h c t = subst (λ (x : ℕ). p x ≡ true) (sym (eqb-true c a t)) h

-- A character of ASCII is a quote or an underscore.
abbrev mark : ℕ → Bool
mark c = eqb c (ch "'") || eqb c (ch "_")

-- One that an identifier may have.
abbrev ascii_ident : ℕ → Bool
ascii_ident c = between (ch "a") (ch "z") c || (between (ch "A") (ch "Z") c || (is_digit c || mark c))

-- A hexadecimal digit is one.
hex_ascii : (c : ℕ) → is_hex c ≡ true → ascii_ident c ≡ true
unfolding is_hex
hex_ascii c = either (is_digit c) (between (ch "A") (ch "F") c || between (ch "a") (ch "f") c) digit (either (between (ch "A") (ch "F") c) (between (ch "a") (ch "f") c) upper lower)
  where
    digit : is_digit c ≡ true → ascii_ident c ≡ true
    digit h =
        right (between (ch "a") (ch "z") c) (between (ch "A") (ch "Z") c || (is_digit c || mark c))
        (right (between (ch "A") (ch "Z") c) (is_digit c || mark c) (left (is_digit c) (mark c) h))

    upper : between (ch "A") (ch "F") c ≡ true → ascii_ident c ≡ true
    upper h =
        right (between (ch "a") (ch "z") c) (between (ch "A") (ch "Z") c || (is_digit c || mark c))
        (left (between (ch "A") (ch "Z") c) (is_digit c || mark c) (between_wider (ch "A") (ch "F") (ch "Z") c (omega arith) h))

    lower : between (ch "a") (ch "f") c ≡ true → ascii_ident c ≡ true
    lower h =
        left (between (ch "a") (ch "z") c) (between (ch "A") (ch "Z") c || (is_digit c || mark c))
        (between_wider (ch "a") (ch "f") (ch "z") c (omega arith) h)

module _ (f : Bytes) where
  -- So it is a character of an identifier.
  hex_ident : (c : ℕ) → is_hex c ≡ true → is_ident_char f c ≡ true
  unfolding is_ident_char
  hex_ident c t = rw (lt-ltb c 128 (small_hex c t), is_ident_char) (hex_ascii c t)

  -- So is a digit.
  digit_ident : (c : ℕ) → is_digit c ≡ true → is_ident_char f c ≡ true
  digit_ident c t = hex_ident c (digit_hex c t)

  -- So are all characters of an integer.
  integer_within : Within (is_ident_char f) integer
  integer_within = (digit_ident, digit_ident)

  -- So are those of an integer with a letter for its base.
  pub xinteger_within : Within (is_ident_char f) xinteger
  unfolding is_ident_char mem_cp is_digit
  xinteger_within =
      let octal : (c : ℕ) → between (ch "0") (ch "7") c ≡ true → is_ident_char f c ≡ true = λ c t. hex_ident c (octal_hex c t) in
      let bit : (c : ℕ) → mem_cp c (codes "01") ≡ true → is_ident_char f c ≡ true = listed_passes (is_ident_char f) (codes "01") refl in (
        (is_passes (is_ident_char f) (ch "0") refl, tt),
        (
          (listed_passes (is_ident_char f) (codes "xX") refl, (hex_ident, hex_ident)),
          (
            (listed_passes (is_ident_char f) (codes "oO") refl, (octal, octal)),
            (listed_passes (is_ident_char f) (codes "bB") refl, (bit, bit)),
          ),
        ),
      )

  -- So are those of one with LF after it.
  pub xieee64_within : Within (is_ident_char f) xieee64
  unfolding is_ident_char is_digit
  xieee64_within = (xinteger_within, (is_passes (is_ident_char f) (ch "L") refl, (is_passes (is_ident_char f) (ch "F") refl, tt)))

-- ---- the pattern and its matcher

-- A number of any kind.
abbrev number : Re
number = alt integer (alt xinteger (alt ieee64 xieee64))

-- One or more characters of identifiers.
abbrev pub letters : Bytes → Re
letters f = at_least_one (chr (is_ident_char f))

-- What one of two answers reaches the later one does.
pub reaches_later : (m n : Option ℕ) (k : ℕ) → Reaches k m ⊎ Reaches k n → Reaches k (later m n)
reaches_later m n k = (right_later (itself m) (itself n)).top k
  where
    itself : (m : Option ℕ) → Right (λ k. Reaches k m) m
    itself m = record { fits = λ e q. (e, q, omega arith); top = λ k h. h }

-- So does the latest of at_least_one answers.
reaches_max : (ms : List (Option ℕ)) (n k : ℕ) → Reaches k (get_or ms n None) → Reaches k (max_list ms)
unfolding max_list
reaches_max [] n k h = h
reaches_max (m ∷ ms) zero k h = reaches_later m (max_list ms) k (inl h)
reaches_max (m ∷ ms) (suc n) k h = reaches_later m (max_list ms) k (inr (reaches_max ms n k h))

-- A right answer is an end of whatever its ends are ends of.
pub right_end : {P Q : ℕ → Type 0} {m : Option ℕ} → Right P m → ((e : ℕ) → P e → Q e) → Each_end Q m
right_end r f = record { at = λ {e} q. f e (r.fits e q) }

module _ (s f : Bytes) (i : ℕ) where
  -- What the matcher finds is an end of the pattern: each of its seven ends is one of a number.
  bad_ends : Each_end (At s (bad_number f) i) (match_bad_number s f i)
  unfolding match_bad_number
  bad_ends =
      ends_max (each_map {P = Each_end (At s number i)} _ (λ m h. ends_then h (λ j n. right_end (plus_right s (is_ident_char f) j) (λ e r. (j, n, r))))
      (right_end (integer_right s i) (λ e h. inl h)
      ⨾ right_end (xinteger_right s i) (λ e h. inr (inl h))
      ⨾ right_end (floatp_right s i) point
      ⨾ right_end (floate_right s i) exponent
      ⨾ ends_then (right_end (xinteger_right s i) (λ e h. h)) (λ j x. right_end (text_right s "LF" refl j) (λ e h. inr (inr (inr (j, x, h)))))
      ⨾ right_end (pointed_right s i) (λ e (m, a, b). point e (m, a, (e, b, stop refl)))
      ⨾ right_end (short_right s i) (λ e h. exponent e (long e h))
      ⨾ none_left))
    where
      point : (e : ℕ) → At s floatp i e → At s number i e
      point e h = inr (inr (inl (inl h)))

      exponent : (e : ℕ) → At s floate i e → At s number i e
      exponent e h = inr (inr (inl (inr h)))

      long : (e : ℕ) → At s (scientific (chr is_digit)) i e → At s floate i e
      long e (a, x, (b, y, (c, z, (d, w, t)))) = (a, x, (b, y, (c, z, (d, w, (e, t, stop refl)))))

  -- So what it finds fits.
  pub bad_fits : (e : ℕ) → match_bad_number s f i ≡ Some e → At s (bad_number f) i e
  bad_fits e q = bad_ends.at q

  -- ---- every end is reached

  -- What is reached after the longest integer is reached.
  pub by_integer : (k : ℕ) → Reaches k (match_integer s i then plus (is_ident_char f) s) → Reaches k (match_bad_number s f i)
  unfolding match_bad_number
  by_integer k h = reaches_max _ 0 k h

  -- What is reached after a number up to its point is reached.
  pub by_point : (k : ℕ) → Reaches k (match_pointed s i then plus (is_ident_char f) s) → Reaches k (match_bad_number s f i)
  unfolding match_bad_number
  by_point k h = reaches_max _ 5 k h

  -- What is reached after one with an exponent of one digit is reached.
  pub by_exponent : (k : ℕ) → Reaches k (match_short s i then plus (is_ident_char f) s) → Reaches k (match_bad_number s f i)
  unfolding match_bad_number
  by_exponent k h = reaches_max _ 6 k h

  -- Characters of identifiers are a run.
  letters_run : (j k : ℕ) → At s (letters f) j k → Chain (Step s (is_ident_char f)) j k
  letters_run j k (m, a, c) = step m a c

  -- They are found after an end that is found.
  found_reaches : {m : Option ℕ} (j k : ℕ) → m ≡ Some j → Chain (Step s (is_ident_char f)) j k → j < k → Reaches k (m then plus (is_ident_char f) s)
  found_reaches j k q c h =
      subst (λ (m : Option ℕ). Reaches k (m then plus (is_ident_char f) s)) (sym q) ((plus_right s (is_ident_char f) j).top k (run_some s (is_ident_char f) c h))

  -- After a shortest part that has one end, digits are the first of those characters, so what they lead to is reached after it.
  pub short_reaches : {m : Option ℕ} (r : Re) → Single (At s r i) → Right (At s r i) m → (j n k : ℕ) → At s r i j → Chain (Step s is_digit) j n
      → At s (letters f) n k → Reaches k (m then plus (is_ident_char f) s)
  short_reaches r one h j n k a c b =
      let d = at_run s (is_ident_char f) (many (chr is_digit)) (digit_ident f) j n c in
      found_reaches j k (single_found one h a) (chain_join d (letters_run n k b)) (omega (arith, run_forward s (is_ident_char f) d, at_ahead s (letters f) n k refl b))

  -- An integer of two digits or more is found as one.
  two_right : Right (At s (seq (chr is_digit) integer) i) (two_digits s i)
  two_right = right_then (at_single s (chr is_digit) i refl) (one_right s is_digit i) (λ j h. plus_right s is_digit j)

  -- The matcher reaches k, or an integer of two digits or more does.
  abbrev Reached : ℕ → Type 0
  Reached k = Reaches k (match_bad_number s f i) ⊎ Reaches k (two_digits s i)

  -- Where a number has characters of identifiers alone and begins with an integer, what is after the longest integer is found, and
  -- where nothing is after it, it reaches as far itself: then a digit stands after its first.
  pub run_found : (r : Re) → Within (is_ident_char f) r → nullable r ≡ false → (j m k : ℕ) → At s integer i j → At s r i m → At s (letters f) m k
      → Reaches k (match_integer s i then plus (is_ident_char f) s) ⊎ ((e : ℕ) × At s (seq (chr is_digit) integer) i e × (k ≤ e))
  run_found r w n j m k a x y =
      let t = (integer_right s i).top j a in
      let b = (integer_right s i).fits t.0 t.1 in
      let v = at_run s (is_ident_char f) r w i m x in
      let c = chain_join v (letters_run m k y) in
      let d = at_run s (is_ident_char f) integer (integer_within f) i t.0 b in
      by_order t.0 k
      (λ h. inl (found_reaches t.0 k t.1 (run_rest s (is_ident_char f) d c h) h))
      (λ h.
      let past = run_first s (is_ident_char f) b.1 v (at_ahead s r i m n x) in
      let more = at_ahead s (letters f) m k refl y in
      inr (t.0, (b.0, b.1, run_some s is_digit b.2 (omega (arith, past, more))), h))

  -- So such a number is reached.
  run_reached : (r : Re) → Within (is_ident_char f) r → nullable r ≡ false → (j m k : ℕ) → At s integer i j → At s r i m → At s (letters f) m k → Reached k
  run_reached r w n j m k a x y =
      ⊎_elim (λ h. inl (by_integer k h)) (λ (e, h, l). let t = two_right.top e h in inr (t.0, t.1, omega (arith, t.2))) (run_found r w n j m k a x y)

  -- An integer with a letter begins with an integer, its 0.
  pub zero_first : (e : ℕ) → At s xinteger i e → (j : ℕ) × At s integer i j
  unfolding is_digit
  zero_first e (m, (j, a, b), c) = (j, (j, step_map (is_passes is_digit (ch "0") refl) a, stop refl))

  -- Every end of the pattern is reached.
  every_reached : (k : ℕ) → At s (bad_number f) i k → Reached k
  every_reached k (m, inl a, b) = run_reached integer (integer_within f) refl m m k a a b
  every_reached k (m, inr (inl a), b) = let z = zero_first m a in run_reached xinteger (xinteger_within f) refl z.0 m k z.1 a b
  every_reached k (m, inr (inr (inl (inl (a, x, (j, y, c))))), b) = inl (by_point k (short_reaches pointed (pointed_single s i) (pointed_right s i) j m k (a, x, y) c b))
  every_reached k (m, inr (inr (inl (inr (a, x, (n, y, (o, z, (p, w, (j, t, c)))))))), b) =
      inl (by_exponent k (short_reaches (scientific (chr is_digit)) (short_single s i) (short_right s i) j m k (a, x, (n, y, (o, z, (p, w, t)))) c b))
  every_reached k (m, inr (inr (inr a)), b) = let z = zero_first a.0 a.1 in run_reached xieee64 (xieee64_within f) refl z.0 m k z.1 a b

  -- Two digits or more are a number and a digit after it.
  two_fits : (e : ℕ) → At s (seq (chr is_digit) integer) i e → At s (bad_number f) i e
  two_fits e (j, a, x) =
      (j, inl (j, a, stop refl), run_some s (is_ident_char f) (at_run s (is_ident_char f) integer (integer_within f) j e x) (at_ahead s integer j e refl x))

  -- So the later of what the matcher finds and of such an integer is the longest end of the pattern.
  pub bad_right : Right (At s (bad_number f) i) (later (match_bad_number s f i) (two_digits s i))
  bad_right = record {
    fits = λ e q. (ends_later bad_ends (right_end two_right two_fits)).at q;
    top = λ k a. reaches_later (match_bad_number s f i) (two_digits s i) k (every_reached k a);
  }

  -- Every end is reached by the matcher or by the longest integer.
  pub bad_reached : (k : ℕ) → At s (bad_number f) i k → Reaches k (match_bad_number s f i) ⊎ Reaches k (max_list (any_integer_ends s i))
  bad_reached k a = ⊎_elim (λ h. inl h) (λ h. inr (by_two h)) (every_reached k a)
    where
      by_two : Reaches k (two_digits s i) → Reaches k (max_list (any_integer_ends s i))
      by_two (e, q, h) =
          let (j, x, (m, y, c)) = two_right.fits e q in
          let t = (any_integer_right s i).top e (inl (j, x, step m y c)) in
          (t.0, t.1, omega (arith, t.2))
