-- What an expression permits, by offsets into one text: no encoding, `++` or `take` is seen after this file. Proved: a part is
-- permitted exactly where the expression leads from its start to its end. Rests on the laws of a text.
use Prim.Native.Nat.{ℕ, ◌+◌, ◌≤◌}
use mathlib.Core.Path.{◌≡◌, refl, sym, ap, subst, ◌∙◌}
use mathlib.Core.Bool.{Bool, true}
use mathlib.Core.List.{List, [], ◌∷◌, ◌++◌, append_assoc}
use mathlib.Core.Logic.{◌⊎◌, inl, inr}
use native.Mathlib.Nat.{add-zero}
use native.Mathlib.Omega.{arith}
use lib.ListN.{length, take, drop, length-append}
use lib.Seq.{slice, take_at, length-slice}
use Rattle.definition.specs.Basics.{Bytes}
use Rattle.definition.specs.Utf8.{encode, encode_all, Scalars, sequence_at}
use Rattle.definition.specs.Regex.{Re, eps, chr, seq, alt, many, Many, none, more, In, Permits}
use Rattle.definition.specs.declared.Sequence.TheVariants.{Char}
use Rattle.lemmas.proofs.Lists.{slice_then_drop}
use Rattle.utf8.proofs.Character.{char_read, char_within, read_at}
use Rattle.utf8.proofs.Runs.{drop_next}

-- ---- the language over offsets

-- A character that passes the test stands at i, and e is the offset after it.
pub record Step (s : Bytes) (p : ℕ → Bool) (i e : ℕ) : Type 0 where
  pub code : ℕ
  pub width : ℕ
  pub read : sequence_at s i ≡ Char code width
  pub ends : e ≡ i + width
  pub passes : p code ≡ true

-- Steps of P lead from i to e, none or more.
pub data Chain (P : ℕ → ℕ → Type 0) : ℕ → ℕ → Type 0 where
  stop : {i e : ℕ} → i ≡ e → Chain P i e
  step : {i e : ℕ} (j : ℕ) → P i j → Chain P j e → Chain P i e

-- The expression leads from i to e.
abbrev pub At : Bytes → Re → ℕ → ℕ → Type 0
At s eps i e = i ≡ e
At s (chr p) i e = Step s p i e
At s (seq r q) i e = (m : ℕ) × At s r i m × At s q m e
At s (alt r q) i e = At s r i e ⊎ At s q i e
At s (many r) i e = Chain (At s r) i e

-- ---- the characters from one offset to another

-- The characters cs stand from i to e.
abbrev pub Spell : Bytes → List ℕ → ℕ → ℕ → Type 0
Spell s [] i e = i ≡ e
Spell s (c ∷ cs) i e = (w : ℕ) × (sequence_at s i ≡ Char c w) × Spell s cs (i + w) e

module _ (s : Bytes) where
  -- Two words in a row are a word.
  spell_join : (u v : List ℕ) (i m e : ℕ) → Spell s u i m → Spell s v m e → Spell s (u ++ v) i e
  spell_join [] v i m e a b = subst (λ k. Spell s v k e) (sym a) b
  spell_join (c ∷ u) v i m e (w, q, a) b = (w, q, spell_join u v (i + w) m e a b)

  -- A word in two parts is two in a row.
  spell_split : (u v : List ℕ) (i e : ℕ) → Spell s (u ++ v) i e → (m : ℕ) × Spell s u i m × Spell s v m e
  spell_split [] v i e a = (i, refl, a)
  spell_split (c ∷ u) v i e (w, q, a) =
      let r = spell_split u v (i + w) e a in
      (r.0, (w, q, r.1), r.2)

  -- Their bytes are their encoding.
  pub spell_bytes : (cs : List ℕ) (i e : ℕ) → Spell s cs i e → Scalars cs × (drop i s ≡ encode_all cs ++ drop e s) × (e ≡ i + length (encode_all cs))
  unfolding encode_all
  spell_bytes [] i e a = (tt, ap (λ (k : ℕ). drop k s) a, sym a ∙ sym (add-zero i))
  spell_bytes (c ∷ cs) i e (w, q, a) =
      let r = spell_bytes cs (i + w) e a in
      let h = char_read q in (
        (h.scalar, r.0),
        h.bytes ∙ ap (λ (l : Bytes). encode c ++ l) r.1 ∙ sym (append_assoc (encode c) (encode_all cs) (drop e s)),
        omega (arith, r.2, h.width, length-append (encode c) (encode_all cs)),
      )

  -- Where their encoding stands they stand.
  pub bytes_spell : (cs : List ℕ) (i : ℕ) (rest : Bytes) → Scalars cs → drop i s ≡ encode_all cs ++ rest → Spell s cs i (i + length (encode_all cs))
  unfolding encode_all
  bytes_spell [] i rest sc h = sym (add-zero i)
  bytes_spell (c ∷ cs) i rest sc h =
      let k : drop i s ≡ encode c ++ (encode_all cs ++ rest) = h ∙ append_assoc (encode c) (encode_all cs) rest in
      let w = length (encode c) in
      let e : i + w + length (encode_all cs) ≡ i + length (encode c ++ encode_all cs) = omega (arith, length-append (encode c) (encode_all cs)) in (
        w,
        read_at s i c (encode_all cs ++ rest) sc.0 k,
        subst (Spell s cs (i + w)) e (bytes_spell cs (i + w) rest sc.1 (drop_next s i c (encode_all cs ++ rest) k)),
      )

  -- They lead within the text.
  pub spell_within : (cs : List ℕ) (i e : ℕ) → i ≤ length s → Spell s cs i e → (i ≤ e) × (e ≤ length s)
  spell_within [] i e h a = omega arith
  spell_within (c ∷ cs) i e h (w, q, a) = let r = spell_within cs (i + w) e (char_within (char_read q)).1 a in omega arith

  -- ---- from words to offsets

  -- Words in a row are steps.
  many_at : {P : List ℕ → Type 0} {A : ℕ → ℕ → Type 0} → ((w : List ℕ) (i e : ℕ) → Spell s w i e → P w → A i e)
      → (w : List ℕ) (i e : ℕ) → Spell s w i e → Many P w → Chain A i e
  many_at f w i e h (none q) = stop (subst (λ l. Spell s l i e) q h)
  many_at f w i e h (more u v q p k) =
      let r = spell_split u v i e (subst (λ l. Spell s l i e) q h) in
      step r.0 (f u i r.0 r.1 p) (many_at f v r.0 e r.2 k)

  -- A word of the language that stands from i to e leads there.
  pub in_at : (r : Re) (w : List ℕ) (i e : ℕ) → Spell s w i e → In r w → At s r i e
  in_at eps w i e h q = subst (λ l. Spell s l i e) q h
  in_at (chr p) w i e h (a, q, t) =
      let k = subst (λ l. Spell s l i e) q h in
      record { code = a; width = k.0; read = k.1; ends = sym k.2; passes = t }
  in_at (seq r t) w i e h (u, v, q, a, b) =
      let k = spell_split u v i e (subst (λ l. Spell s l i e) q h) in
      (k.0, in_at r u i k.0 k.1 a, in_at t v k.0 e k.2 b)
  in_at (alt r t) w i e h (inl a) = inl (in_at r w i e h a)
  in_at (alt r t) w i e h (inr a) = inr (in_at t w i e h a)
  in_at (many r) w i e h a = many_at (in_at r) w i e h a

  -- ---- from offsets to words

  -- A word of P stands from i to e.
  record Word (P : List ℕ → Type 0) (i e : ℕ) : Type 0 where
    word : List ℕ
    stands : Spell s word i e
    fits : P word

  -- Steps are words in a row.
  chain_words : {P : List ℕ → Type 0} {A : ℕ → ℕ → Type 0} → ((i e : ℕ) → A i e → Word P i e) → {i e : ℕ} → Chain A i e → Word (Many P) i e
  chain_words f (stop q) = record { word = []; stands = q; fits = none refl }
  chain_words f {i} {e} (step j a k) =
      let x = f i j a in
      let y = chain_words f k in
      record {
        word = x.word ++ y.word;
        stands = spell_join x.word y.word i j e x.stands y.stands;
        fits = more x.word y.word refl x.fits y.fits;
      }

  -- Where the expression leads from i to e, a word of its language stands.
  at_in : (r : Re) (i e : ℕ) → At s r i e → Word (In r) i e
  at_in eps i e h = record { word = []; stands = h; fits = refl }
  at_in (chr p) i e h = record { word = h.code ∷ []; stands = (h.width, h.read, sym h.ends); fits = (h.code, refl, h.passes) }
  at_in (seq r q) i e (m, a, b) =
      let x = at_in r i m a in
      let y = at_in q m e b in
      record {
        word = x.word ++ y.word;
        stands = spell_join x.word y.word i m e x.stands y.stands;
        fits = (x.word, y.word, refl, x.fits, y.fits);
      }
  at_in (alt r q) i e (inl h) = let x = at_in r i e h in record { word = x.word; stands = x.stands; fits = inl x.fits }
  at_in (alt r q) i e (inr h) = let x = at_in q i e h in record { word = x.word; stands = x.stands; fits = inr x.fits }
  at_in (many r) i e h = chain_words (at_in r) h

  -- ---- a permitted part

  -- What the expression leads to is permitted.
  pub at_permits : (r : Re) (i e : ℕ) → i ≤ length s → At s r i e → Permits r s i e
  at_permits r i e h a =
      let x = at_in r i e a in
      let b = spell_bytes x.word i e x.stands in
      let w = spell_within x.word i e h x.stands in
      let n : length (slice i e s) ≡ length (encode_all x.word) = length-slice i e s w.1 ∙ omega (arith, b.2) in
      record {
        forward = w.0;
        within = w.1;
        chars = x.word;
        scalars = b.0;
        bytes =
            sym (take_at (slice i e s) (drop e s) (length (encode_all x.word)) n)
            ∙ ap (take (length (encode_all x.word))) (slice_then_drop i e s w.0 w.1 ∙ b.1)
            ∙ take_at (encode_all x.word) (drop e s) (length (encode_all x.word)) refl;
        fits = x.fits;
      }

  -- The expression leads to what is permitted.
  pub permits_at : (r : Re) (i e : ℕ) → Permits r s i e → At s r i e
  permits_at r i e p =
      let d : drop i s ≡ encode_all p.chars ++ drop e s =
      sym (slice_then_drop i e s p.forward p.within) ∙ ap (λ (l : Bytes). l ++ drop e s) p.bytes
      in
      let n : i + length (encode_all p.chars) ≡ e = omega (arith, ap length p.bytes, length-slice i e s p.within, p.forward) in
      in_at r p.chars i e (subst (Spell s p.chars i) n (bytes_spell p.chars i (drop e s) p.scalars d)) p.fits
