-- The shapes that patterns have, each with its matcher, over any class of characters: one character, a byte of ASCII, a word and a run.
-- Rests on the laws of a text and of right answers.
use Rattle.std.specs.Prelude.{Option, Some, None}
use Prim.Native.Nat.{ℕ, suc, ◌+◌, ◌≤◌, ◌<◌}
use Prim.Native.String.{String}
use mathlib.Core.Path.{◌≡◌, refl, sym, ap, subst, ◌∙◌}
use mathlib.Core.Bool.{Bool, true, false, ◌&&◌, false≢true}
use mathlib.Core.List.{List, [], ◌∷◌, ◌++◌}
use mathlib.Core.Logic.{inl}
use native.Mathlib.Nat.{add-zero}
use native.Mathlib.Numerals.{add-one}
use native.Mathlib.Omega.{arith}
use lib.Dec.{ltb, leb, eqb}
use lib.ListN.{length, get_or, drop, length-drop}
use lib.Seq.{drop-cons, drop-drop, get_or-drop}
use borrow.Author.Tests.{eqb-true, eq-eqb, lt-ltb, ltb-true}
use Rattle.definition.specs.Basics.{Bytes, codes}
use Rattle.definition.specs.Utf8.{encode, encode_all, Scalars, sequence_at}
use Rattle.definition.specs.Text.{with_char, char_has, byte_has, byte_is, star}
use Rattle.definition.specs.Tables.{cps}
use Rattle.definition.specs.Matchers.{only, one, match_lit, plus}
use Rattle.definition.specs.Regex.{chr, at_least_one, word}
use Rattle.definition.specs.Patterns.{text}
use Rattle.definition.specs.declared.Sequence.{Sequence}
use Rattle.definition.specs.declared.Sequence.TheVariants.{Char, Bad, End}
use Rattle.utf8.proofs.Character.{char_read}
use Rattle.utf8.proofs.EncodingLaws.{encode_1}
use Rattle.utf8.proofs.Star.{star_on, star_from, by_star}
use Rattle.lemmas.proofs.Cases.{by_test, both, either}
use Rattle.laws_progress.proofs.Characters.{ascii_at}
use Rattle.laws_progress.proofs.Walks.{byte_passes, char_passes}
use Rattle.laws_progress.proofs.Matches.{Small, small_is}
use Rattle.laws_progress.proofs.Words.{plain, all_plain}
use Rattle.laws_longest.proofs.Language.{Step, Chain, stop, step, At, Spell, spell_bytes, bytes_spell}
use Rattle.laws_longest.proofs.Ends.{Right, Single, some_end, right_to, right_nothing, right_single, right_then, right_head, Then}
use Rattle.laws_longest.proofs.Starts.{step_on, step_has, step_same, step_code, chain_forward, at_single}

-- ---- the characters of words

-- Characters of words are scalar values.
pub plain_scalars : (cs : List ℕ) → all_plain cs ≡ true → Scalars cs
plain_scalars [] p = tt
plain_scalars (c ∷ cs) p =
    let h = both (plain c) (all_plain cs) p in (
      either (ltb c 0x80) (leb 0x800 c && ltb c 0xD800)
          (λ t. let l = ltb-true c 0x80 t in record { small = omega arith; no_surrogate = inl (omega arith) })
          (λ t. let l = ltb-true c 0xD800 (both (leb 0x800 c) (ltb c 0xD800) t).1 in record { small = omega arith; no_surrogate = inl l })
          h.0,
      plain_scalars cs h.1,
    )

-- ---- bytes of ASCII

module _ (s : Bytes) where
  -- What the bytes from i on begin with is the byte at i, and what follows it is after it.
  first_byte : (i b : ℕ) (l : Bytes) → drop i s ≡ b ∷ l → (i < length s) × (get_or s i 0 ≡ b) × (drop (i + 1) s ≡ l)
  first_byte i b l h = (
    omega (arith, length-drop i s, ap length h),
    ap (λ (k : ℕ). get_or s k 0) (sym (add-zero i)) ∙ sym (get_or-drop i s 0 0) ∙ ap (λ (x : Bytes). get_or x 0 0) h,
    sym (drop-drop 1 i s) ∙ ap (drop 1) h,
  )

  -- A byte of the text that passes a test is found.
  byte_found : (p : ℕ → Bool) (i : ℕ) → i < length s → p (get_or s i 0) ≡ true → byte_has p s i ≡ true
  unfolding byte_has
  byte_found p i h t = rw (lt-ltb i (length s) h, byte_has) t

  module _ {p : ℕ → Bool} (small : Small p) (i : ℕ) where
    -- A byte that passes a test for ASCII is a step of one.
    pub byte_step : byte_has p s i ≡ true → Step s p i (i + 1)
    byte_step t =
        let h = byte_passes p s i t in
        record { code = get_or s i 0; width = 1; read = ascii_at s i h.0 (small _ h.1); ends = refl; passes = h.1 }

    -- A step by such a test is of one byte, which passes it.
    pub step_byte : {e : ℕ} → Step s p i e → (byte_has p s i ≡ true) × (e ≡ i + 1)
    step_byte t =
        let a = char_read t.read in
        let l = small t.code t.passes in
        let q : encode t.code ≡ t.code ∷ [] = encode_1 t.code l in
        let h = first_byte i t.code (drop (i + t.width) s) (a.bytes ∙ ap (λ (x : Bytes). x ++ drop (i + t.width) s) q) in
        (byte_found p i h.0 (ap p h.1 ∙ t.passes), omega (arith, t.ends, a.width, ap length q))

    -- So the byte decides.
    pub byte_right : Right (Step s p i) (only (byte_has p s i) (Some (i + 1)))
    byte_right = go (byte_has p s i) refl
      where
        go : (t : Bool) → byte_has p s i ≡ t → Right (Step s p i) (only t (Some (i + 1)))
        go true e = right_to (byte_step e) (λ k h. omega (arith, (step_byte h).1))
        go false e = right_nothing (λ k h. false≢true (sym e ∙ (step_byte h).0))

    -- The test of the character is that of the byte.
    pub has_byte : char_has p s i ≡ byte_has p s i
    has_byte = go (char_has p s i) (byte_has p s i) refl refl
      where
        go : (a b : Bool) → char_has p s i ≡ a → byte_has p s i ≡ b → a ≡ b
        go true true x y = refl
        go false false x y = refl
        go true false x y =
            let c = char_passes p s i x in
            let t : Step s p i (i + c.width) = record { code = c.code; width = c.width; read = c.read; ends = refl; passes = c.passes } in
            sym (step_byte t).0 ∙ y
        go false true x y = sym x ∙ step_has (byte_step y)

    -- So the character decides too.
    pub has_right : Right (Step s p i) (only (char_has p s i) (Some (i + 1)))
    has_right = subst (λ (t : Bool). Right (Step s p i) (only t (Some (i + 1)))) (sym has_byte) byte_right

  -- ---- one character

  -- `one` finds the character that passes a test.
  pub one_right : (p : ℕ → Bool) (i : ℕ) → Right (Step s p i) (one p s i)
  unfolding one
  one_right p i = go (sequence_at s i) refl
    where
      go : (q : Sequence) → sequence_at s i ≡ q → Right (Step s p i) (with_char q i (λ c j. elim (p c) [ true ↦ Some j | false ↦ None ]) None)
      go (Char c w) q =
          by_test (Right (Step s p i)) (p c)
          (λ t. right_to (record { code = c; width = w; read = q; ends = refl; passes = t }) (λ k h. omega (arith, (step_code q h).0)))
          (λ t. right_nothing (λ k h. false≢true (sym t ∙ (step_code q h).1)))
      go Bad q = right_nothing (λ k h. let r = h.read in let z : ◌≡◌ {A = ℕ} 0 1 = cc in omega arith)
      go End q = right_nothing (λ k h. let r = h.read in let z : ◌≡◌ {A = ℕ} 0 1 = cc in omega arith)

  -- Steps from one offset lead to one end.
  pub step_single : {p : ℕ → Bool} {i : ℕ} → Single (Step s p i)
  step_single j k a b = (step_same a b).0

  -- ---- a byte of ASCII and what is after it

  -- Where nothing more is asked the end is here.
  pub right_here : {j : ℕ} → Right (λ e. j ≡ e) (Some j)
  right_here = right_to refl (λ k h. omega arith)

  -- A byte that passes a test for ASCII is found first, and then what a matcher finds after it.
  pub right_byte : {p : ℕ → Bool} {Q : ℕ → ℕ → Type 0} {m : Option ℕ} → Small p → (i j : ℕ) → j ≡ i + 1 → (byte_has p s i ≡ true → Right (Q j) m)
      → Right (Then (Step s p i) Q) (only (byte_has p s i) m)
  right_byte {p} small i j e h =
      right_head j (byte_has p s i) step_single
      (subst (λ (k : ℕ). Right (Step s p i) (only (byte_has p s i) (Some k))) (sym e) (byte_right small i)) h

  -- The same holds by a test of the character.
  pub right_has : {p : ℕ → Bool} {Q : ℕ → ℕ → Type 0} {m : Option ℕ} → Small p → (i j : ℕ) → j ≡ i + 1 → (char_has p s i ≡ true → Right (Q j) m)
      → Right (Then (Step s p i) Q) (only (char_has p s i) m)
  right_has {p} small i j e h =
      right_head j (char_has p s i) step_single
      (subst (λ (k : ℕ). Right (Step s p i) (only (char_has p s i) (Some k))) (sym e) (has_right small i)) h

  -- The same holds of a word of one letter of ASCII.
  pub right_letter : {Q : ℕ → ℕ → Type 0} {m : Option ℕ} (c : ℕ) → c < 0x80 → (i j : ℕ) → j ≡ i + 1 → (byte_is c s i ≡ true → Right (Q j) m)
      → Right (Then (At s (word (c ∷ [])) i) Q) (only (byte_is c s i) m)
  right_letter c small i j e h = right_head j (byte_is c s i) (at_single s (word (c ∷ [])) i refl) (right_byte (small_is c small) i j e (λ _. right_here)) h

  -- ---- words

  -- Where at_least_one bytes stand they are found.
  lit_finds : (l : Bytes) (i : ℕ) (rest : Bytes) → drop i s ≡ l ++ rest → match_lit s l i ≡ Some (i + length l)
  unfolding match_lit
  lit_finds [] i rest h = ap Some (sym (add-zero i))
  lit_finds (b ∷ l) i rest h =
      let f = first_byte i b (l ++ rest) h in
      let t : byte_is b s i ≡ true = byte_found (λ x. eqb x b) i f.0 (eq-eqb _ _ f.1) in
      let n : i + 1 + length l ≡ i + length (b ∷ l) = omega arith in
      rw (t, match_lit) (lit_finds l (i + 1) rest f.2 ∙ ap Some n)

  -- Where they are found they stand.
  lit_found : (l : Bytes) (i e : ℕ) → match_lit s l i ≡ Some e → (drop i s ≡ l ++ drop e s) × (e ≡ i + length l)
  unfolding match_lit
  lit_found [] i e q = let z : i ≡ e = cc in (ap (λ (k : ℕ). drop k s) z, sym z ∙ sym (add-zero i))
  lit_found (b ∷ l) i e q =
      by_test (λ (m : Option ℕ). m ≡ Some e → (drop i s ≡ b ∷ l ++ drop e s) × (e ≡ i + length (b ∷ l))) (byte_is b s i)
      (λ t r. after_byte t (lit_found l (i + 1) e r)) (λ _ r. some_end r) q
    where
      after_byte : byte_is b s i ≡ true → (drop (i + 1) s ≡ l ++ drop e s) × (e ≡ i + 1 + length l) → (drop i s ≡ b ∷ l ++ drop e s) × (e ≡ i + length (b ∷ l))
      after_byte t r =
          let h = byte_passes (λ x. eqb x b) s i t in
          let z : get_or s i 0 ≡ b = eqb-true _ _ h.1 in
          let d : drop (suc i) s ≡ l ++ drop e s = rw (← add-one i) r.0 in
          (drop-cons s i 0 h.0 ∙ (cc), omega (arith, r.1))

  -- A word leads where its characters stand.
  word_spell : (cs : List ℕ) (i e : ℕ) → At s (word cs) i e → Spell s cs i e
  word_spell [] i e h = h
  word_spell (c ∷ cs) i e (m, a, b) =
      let z : a.code ≡ c = eqb-true a.code c a.passes in
      (a.width, a.read ∙ ap (λ (x : ℕ). Char x a.width) z, subst (λ (k : ℕ). Spell s cs k e) a.ends (word_spell cs m e b))

  -- Its characters stand where it leads.
  spell_word : (cs : List ℕ) (i e : ℕ) → Spell s cs i e → At s (word cs) i e
  spell_word [] i e h = h
  spell_word (c ∷ cs) i e (w, q, h) = (i + w, record { code = c; width = w; read = q; ends = refl; passes = eq-eqb c c refl }, spell_word cs (i + w) e h)

  -- So `match_lit` finds a word, byte by byte.
  pub word_right : (cs : List ℕ) → Scalars cs → (i : ℕ) → Right (At s (word cs) i) (match_lit s (encode_all cs) i)
  word_right cs sc i = right_single found finds
    where
      found : (e : ℕ) → match_lit s (encode_all cs) i ≡ Some e → At s (word cs) i e
      found e q =
          let r = lit_found (encode_all cs) i e q in
          spell_word cs i e (subst (Spell s cs i) (sym r.1) (bytes_spell s cs i (drop e s) sc r.0))

      finds : (e : ℕ) → At s (word cs) i e → match_lit s (encode_all cs) i ≡ Some e
      finds e h =
          let b = spell_bytes s cs i e (word_spell cs i e h) in
          lit_finds (encode_all cs) i (drop e s) b.1 ∙ ap Some (sym b.2)

  -- It finds a word as it is spelled.
  pub text_right : (w : String) → all_plain (codes w) ≡ true → (i : ℕ) → Right (At s (text w) i) (match_lit s (cps w) i)
  unfolding cps
  text_right w p i = word_right (codes w) (plain_scalars (codes w) p) i

  -- ---- runs

  -- `star` ends the longest run of characters that pass a test.
  pub star_right : (p : ℕ → Bool) (i : ℕ) → Right (Chain (Step s p) i) (Some (star p s i))
  star_right p i = right_to (run i) (λ k h. reach h)
    where
      run : (i : ℕ) → Chain (Step s p) i (star p s i)
      run =
          by_star p s (Chain (Step s p)) (λ i h. stop refl) (λ i c w q t. stop refl)
          (λ i c w e q t k. step (i + w) (record { code = c; width = w; read = q; ends = refl; passes = t }) k)

      reach : {i k : ℕ} → Chain (Step s p) i k → k ≤ star p s i
      reach {i} (stop q) = omega (arith, star_from p s i)
      reach {i} (step j a h) =
          let q : star p s i ≡ star p s j = star_on p s i a.code a.width a.read a.passes ∙ ap (star p s) (sym a.ends) in
          omega (arith, reach h)

  -- `plus` ends the longest run of one or more.
  pub plus_right : (p : ℕ → Bool) (i : ℕ) → Right (At s (at_least_one (chr p)) i) (plus p s i)
  unfolding plus
  plus_right p i = right_then step_single (one_right p i) (λ j h. star_right p j)

  -- Where a run goes on, a character that passes stands.
  chain_next : {p : ℕ → Bool} {i e : ℕ} → Chain (Step s p) i e → i < e → (k : ℕ) × Step s p i k
  chain_next (stop q) h = absurd (omega arith)
  chain_next (step j a k) h = (j, a)

  -- Of two runs from one offset the shorter one can go on.
  pub run_more : {p : ℕ → Bool} {i j k : ℕ} → Chain (Step s p) i j → Chain (Step s p) i k → j < k → (n : ℕ) × Step s p j n
  run_more {p} {k = k} (stop q) d h = chain_next (subst (λ (x : ℕ). Chain (Step s p) x k) q d) h
  run_more (step m a c) (stop q) h = absurd (omega (arith, (step_on a).0, chain_forward s (λ x y t. omega (arith, (step_on t).0)) c))
  run_more {p} {k = k} (step m a c) (step n b d) h = run_more c (subst (λ (x : ℕ). Chain (Step s p) x k) (step_same b a).0 d) h
