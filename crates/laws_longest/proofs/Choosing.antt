-- The choice of `select` is the longest, and the longest end of each place is that of its pattern, both where `Numbers` holds.
-- On the fast paths, that no other place permits anything is read off the patterns' first characters, which are computed.
-- Rests on the places and on the choice among them.
use Rattle.std.specs.Prelude.{Option}
use Prim.Native.Nat.{ℕ, zero, suc, ◌+◌, ◌≤◌, ◌<◌}
use mathlib.Core.Path.{◌≡◌, refl, sym, subst, ◌∙◌}
use mathlib.Core.Bool.{Bool, true, false, not, ◌&&◌, ◌||◌, false≢true}
use mathlib.Core.List.{List, [], ◌∷◌}
use mathlib.Core.Logic.{inl, inr}
use native.Mathlib.Decide.{ℕ_discrete}
use native.Mathlib.Nat.{add-zero}
use native.Mathlib.Omega.{arith}
use lib.Dec.{eqb}
use lib.ListN.{length, get_or, get_or-eq_default}
use borrow.Author.Tests.{eqb-true, eqb-false, not-true}
use Rattle.definition.specs.Basics.{Bytes, ch, mem_cp}
use Rattle.definition.specs.Utf8.{sequence_at}
use Rattle.definition.specs.Text.{char_has}
use Rattle.definition.specs.Chars.{count_up, ascii_table, in_table, is_digit, is_op_char, is_lower, is_ident_start, is_constructor_start, is_anywhite, is_newline_char, is_uoperator}
use Rattle.definition.specs.Tables.{early_literals, kw_op_rules, op_tokens, mixfix_rules}
use Rattle.definition.specs.Matchers.{plus, match_newline}
use Rattle.definition.specs.Select.{none_at, found, try_all, places, select}
use Rattle.definition.specs.Regex.{Re, never}
use Rattle.definition.specs.Patterns.{patterns, pattern}
use Rattle.definition.specs.Longest.{Permitted, Longest}
use Rattle.definition.specs.Samples.{nullable}
use Rattle.definition.specs.declared.Choice.{Choice}
use Rattle.definition.specs.declared.Sequence.TheVariants.{Char}
use Rattle.lemmas.proofs.Cases.{by_order}
use Rattle.lemmas.proofs.Cases.{by_test, by_lt, both, either}
use Rattle.lemmas.proofs.Each.{numbered_within, numbered_map}
use Rattle.laws_progress.proofs.Walks.{char_passes}
use Rattle.laws_longest.specs.LongestEnd.{choice_end, longest_end}
use Rattle.laws_longest.proofs.Language.{Step, stop, At, at_permits, permits_at}
use Rattle.laws_longest.proofs.Ends.{Right, right_to, right_nothing}
use Rattle.laws_longest.proofs.Starts.{starts, at_ahead, at_first, step_code, step_on}
use Rattle.laws_longest.proofs.Shapes.{plus_right}
use Rattle.laws_longest.proofs.Best.{Picks, Sound, picks_sound, Best, best_all, best_alone}
use Rattle.laws_longest.proofs.Literals.{newline_right}
use Rattle.laws_longest.proofs.Places.{Numbers, white_fast, line_fast, Slow, Has, chosen, Place, right_one, special, all_places}

-- ---- what is computed of the patterns

-- Each expression permits no empty text.
abbrev all_full : List Re → Bool
all_full [] = true
all_full (r ∷ rs) = not (nullable r) && all_full rs

-- Of expressions numbered from n on, none but number k may begin with c.
abbrev only_one : ℕ → ℕ → List Re → ℕ → Bool
only_one k n [] c = true
only_one k n (r ∷ rs) c = (eqb n k || not (starts r c)) && only_one k (suc n) rs c

-- In such a list the expression numbered j permits none.
full_at : (rs : List Re) → all_full rs ≡ true → (j : ℕ) → nullable (get_or rs j never) ≡ false
full_at [] h j = refl
full_at (r ∷ rs) h zero = not-true (nullable r) (both (not (nullable r)) (all_full rs) h).0
full_at (r ∷ rs) h (suc j) = full_at rs (both (not (nullable r)) (all_full rs) h).1 j

-- No other expression begins with c.
other_at : (k n : ℕ) (rs : List Re) (c : ℕ) → only_one k n rs c ≡ true → (j : ℕ) → (n + j ≡ k → ⊥) → starts (get_or rs j never) c ≡ false
other_at k n [] c h j d = refl
other_at k n (r ∷ rs) c h zero d =
    either (eqb n k) (not (starts r c)) (λ e. absurd (d (add-zero n ∙ eqb-true n k e))) (not-true (starts r c))
    (both (eqb n k || not (starts r c)) (only_one k (suc n) rs c) h).0
other_at k n (r ∷ rs) c h (suc j) d =
    let q : suc n + j ≡ n + suc j = omega arith in
    other_at k (suc n) rs c (both (eqb n k || not (starts r c)) (only_one k (suc n) rs c) h).1 j (λ e. d (sym q ∙ e))

-- The patterns, from place 0 on, which permits nothing.
abbrev all_patterns : Bytes → List Re
all_patterns f = never ∷ patterns f

-- No pattern permits the empty text.
patterns_full : (f : Bytes) → all_full (all_patterns f) ≡ true
unfolding patterns early_literals kw_op_rules op_tokens mixfix_rules
patterns_full f = refl

-- A pattern that leads from i leads on.
pub pattern_ahead : (s f : Bytes) (k i e : ℕ) → At s (pattern f k) i e → i < e
unfolding pattern
pattern_ahead s f k i e a = at_ahead s (get_or (all_patterns f) k never) i e (full_at (all_patterns f) (patterns_full f) k) a

-- ---- the characters of the fast paths

-- What holds of a character holds of one that passes the test for it.
at_char : (P : ℕ → Type 0) {a c : ℕ} → P a → eqb c a ≡ true → P c
at_char P {a} {c} h e = subst P (sym (eqb-true c a e)) h

-- What holds of each character of white space of ASCII holds of all of it.
by_white : (P : ℕ → Type 0) → P (ch " ") → P (ch "\t") → P 11 → P 12 → (c : ℕ) → white_fast c ≡ true → P c
by_white P w x y z c =
    either (eqb c (ch " ")) _ (at_char P w) (either (eqb c (ch "\t")) _ (at_char P x) (either (eqb c 11) (eqb c 12) (at_char P y) (at_char P z)))

-- The same holds of its line ends.
by_line : (P : ℕ → Type 0) → P (ch "\n") → P (ch "\r") → (c : ℕ) → line_fast c ≡ true → P c
by_line P x y c = either (eqb c (ch "\n")) (eqb c (ch "\r")) (at_char P x) (at_char P y)

-- Only place 7 may begin with such white space, and only place 8 with such a line end.
fast_only : (f : Bytes)
    → ((c : ℕ) → white_fast c ≡ true → only_one 7 0 (all_patterns f) c ≡ true)
    × ((c : ℕ) → line_fast c ≡ true → only_one 8 0 (all_patterns f) c ≡ true)
unfolding patterns early_literals kw_op_rules op_tokens mixfix_rules is_digit is_op_char in_table ascii_table count_up mem_cp is_lower is_ident_start is_constructor_start is_anywhite is_newline_char is_uoperator
fast_only f = (
  by_white (λ c. only_one 7 0 (all_patterns f) c ≡ true) refl refl refl refl,
  by_line (λ c. only_one 8 0 (all_patterns f) c ≡ true) refl refl,
)

-- They are white space, and a line end.
fast_is : (f : Bytes) → ((c : ℕ) → white_fast c ≡ true → is_anywhite f c ≡ true) × ((c : ℕ) → line_fast c ≡ true → is_newline_char c ≡ true)
unfolding is_anywhite is_newline_char
fast_is f = (by_white (λ c. is_anywhite f c ≡ true) refl refl refl refl, by_line (λ c. is_newline_char c ≡ true) refl refl)

-- ---- one place and its choice

-- The choice of a place is a right answer.
picks_right : {P : ℕ → Type 0} {i k : ℕ} {c : Choice} → ((e : ℕ) → P e → i < e) → Picks P i k c → Right P (choice_end i c)
picks_right {P} {i} {c = c} ahead h =
    by_lt (Right P) i c.end (λ l. right_to (h.fits l).1 h.top) (λ l. right_nothing (λ e p. omega (arith, ahead e p, h.top e p)))

module _ (s f : Bytes) (i : ℕ) where
  -- A number that is no place permits nothing.
  pub place_range : (k e : ℕ) → At s (pattern f k) i e → (1 ≤ k) × (k ≤ 50)
  unfolding pattern patterns
  place_range zero e a = absurd (false≢true a.passes)
  place_range (suc k) e a = by_order k 50 (λ h. omega arith) (λ h. absurd (false≢true (subst (λ (r : Re). At s r i e) (past h) a).passes))
    where
      past : 50 ≤ k → get_or (patterns f) k never ≡ never
      past h = get_or-eq_default (patterns f) never {n = k} h

  -- ---- the fast paths

  -- Where a character stands with which only place k begins, no other has an end.
  alone : (k c w : ℕ) → sequence_at s i ≡ Char c w → only_one k 0 (all_patterns f) c ≡ true → (j e : ℕ) → (j ≡ k → ⊥) → Has s f i j e → ⊥
  unfolding pattern
  alone k c w q h j e d a =
      let t = (at_first s (get_or (all_patterns f) j never) i e a (pattern_ahead s f j i e a)).1 in
      let z : 0 + j ≡ j = omega arith in
      false≢true (sym (other_at k 0 (all_patterns f) c h j (λ x. d (sym z ∙ x))) ∙ (step_code q t).1)

  -- So what place k finds is the best, if its pattern permits that character alone.
  fast_best : (p q : ℕ → Bool) (k : ℕ) {m : Option ℕ} → 1 ≤ k → k ≤ 50 → ((c : ℕ) → p c ≡ true → only_one k 0 (all_patterns f) c ≡ true)
      → ((c : ℕ) → p c ≡ true → q c ≡ true) → Right (Has s f i k) m → ((e : ℕ) → Step s q i e → Has s f i k e)
      → char_has p s i ≡ true → Best (Has s f i) i 50 (found i k 0 m)
  fast_best p q k a b only passes r permits t =
      let c = char_passes p s i t in
      let e = i + c.width in
      let first : Step s q i e = record { code = c.code; width = c.width; read = c.read; ends = refl; passes = passes c.code c.passes } in
      best_alone 50 k a b (alone k c.code c.width c.read (only c.code c.passes)) r e (step_on first).0 (permits e first)

  -- At white space of ASCII the run of white space is best.
  white_best : char_has white_fast s i ≡ true → Best (Has s f i) i 50 (found i 7 0 (plus (is_anywhite f) s i))
  unfolding pattern patterns
  white_best =
      fast_best white_fast (is_anywhite f) 7 (omega arith) (omega arith) (fast_only f).0 (fast_is f).0 (plus_right s (is_anywhite f) i) (λ e h. (e, h, stop refl))

  -- At a line end of ASCII the line end is best.
  line_best : char_has line_fast s i ≡ true → Best (Has s f i) i 50 (found i 8 0 (match_newline s i))
  unfolding pattern patterns
  line_best = fast_best line_fast is_newline_char 8 (omega arith) (omega arith) (fast_only f).1 (fast_is f).1 (newline_right s i) (λ e h. inr h)

  -- What is best among the places is the longest that is permitted.
  best_longest : {c : Choice} → i ≤ length s → Best (Has s f i) i 50 c → Longest s f i c
  best_longest {c} h b = record {
    place = b.small;
    nothing = (λ z k e l p. omega (arith, b.none z, longest k e p), none);
    ahead = λ d. (b.chosen d).0;
    fits = λ d. at_permits s (pattern f c.place) i c.end h (b.chosen d).1;
    longest = longest;
    first = λ k l p. let a = permits_at s (pattern f k) i c.end p in omega (arith, b.first k c.end (place_range k c.end a).0 l a);
  }
    where
      longest : (k e : ℕ) → Permitted s f k i e → e ≤ c.end
      longest k e p = let a = permits_at s (pattern f k) i e p in let r = place_range k e a in b.longest k e r.0 r.1 a

      none : ((k e : ℕ) → i < e → Permitted s f k i e → ⊥) → c.place ≡ 0
      none g = go (ℕ_discrete c.place 0)
        where
          go : Dec (c.place ≡ 0) → c.place ≡ 0
          go (yes z) = z
          go (no d) = let x = b.chosen d in absurd (g c.place c.end x.0 (at_permits s (pattern f c.place) i c.end h x.1))

  module _ (n : Numbers s f i) where
    -- Each place but three chooses the longest end of its pattern.
    place_picks : (k : ℕ) → (k ≡ 7 → ⊥) → (k ≡ 8 → ⊥) → (k ≡ 27 → ⊥) → Picks (Has s f i k) i k (get_or (none_at i ∷ places s f i) k (none_at i))
    unfolding places
    place_picks zero a b c = record { forward = omega arith; fits = λ l. absurd (omega arith); top = λ e p. absurd (omega (arith, (place_range zero e p).0)) }
    place_picks (suc k) a b c = by_order k 50 inside past
      where
        this : Place s f i (suc k) (get_or (places s f i) k (none_at i)) → Picks (Has s f i (suc k)) i (suc k) (get_or (places s f i) k (none_at i))
        this (right_one h) = h
        this (special (inl q) h) = absurd (a q)
        this (special (inr (inl q)) h) = absurd (b q)
        this (special (inr (inr q)) h) = absurd (c q)

        inside : k < 50 → Picks (Has s f i (suc k)) i (suc k) (get_or (places s f i) k (none_at i))
        inside l =
            let q : 1 + k ≡ suc k = omega arith in
            this (subst (λ (x : ℕ). Place s f i x (get_or (places s f i) k (none_at i))) q (numbered_within (none_at i) (all_places s f i n) k l))

        past : 50 ≤ k → Picks (Has s f i (suc k)) i (suc k) (get_or (places s f i) k (none_at i))
        past l =
            rw (get_or-eq_default (places s f i) (none_at i) {n = k} l)
            (record { forward = omega arith; fits = λ h. absurd (omega arith); top = λ e p. absurd (omega (arith, (place_range (suc k) e p).1)) })

    -- The longest end of each place is right.
    pub end_right : (k : ℕ) → Right (At s (pattern f k) i) (longest_end s f k i)
    unfolding pattern patterns
    end_right k =
        by_test (Right (Has s f i k)) (eqb k 7) (λ e. rw (eqb-true k 7 e) (plus_right s (is_anywhite f) i)) λ a.
        by_test (Right (Has s f i k)) (eqb k 8) (λ e. rw (eqb-true k 8 e) (newline_right s i)) λ b.
        by_test (Right (Has s f i k)) (eqb k 27) (λ e. rw (eqb-true k 27 e) n.bad) λ c.
        picks_right (λ e. pattern_ahead s f k i e) (place_picks k (eqb-false k 7 a) (eqb-false k 8 b) (eqb-false k 27 c))

    -- ---- the choice

    -- Each place is sound where neither fast path is taken.
    place_sound : Slow s i → {k : ℕ} {c : Choice} → Place s f i k c → Sound (Has s f i) (chosen s f i) i k c
    place_sound h (right_one p) = picks_sound (Has s f i) (chosen s f i) i p
    place_sound h (special _ p) = p h

    -- So the choice is the best.
    slow_best : Slow s i → Best (Has s f i) i 50 (try_all (places s f i) (none_at i))
    unfolding places
    slow_best h = best_all (numbered_map (λ k c. place_sound h) (all_places s f i n))

    -- The choice of `select` is the longest, wherever it starts.
    pub choice_longest : i ≤ length s → Longest s f i (select s f i)
    unfolding select
    choice_longest h =
        by_test (Longest s f i) (char_has white_fast s i) (λ t. best_longest h (white_best t)) λ a.
        by_test (Longest s f i) (char_has line_fast s i) (λ t. best_longest h (line_best t)) λ b.
        best_longest h (slow_best (record { no_white = a; no_line = b }))
