-- A word that stands in the text byte by byte is a walk over its characters. Rests on the laws of walks. The words are
-- given by their code points, and whether they are such as are asked for here is computed.
use Prim.Native.Nat.{ℕ, ◌+◌, ◌-◌, ◌*◌, ◌/◌, ◌%◌, ◌≤◌, ◌<◌}
use Prim.Native.String.{String}
use mathlib.Core.Path.{◌≡◌, refl}
use mathlib.Core.Bool.{Bool, true, false, ◌&&◌, ◌||◌, false≢true}
use mathlib.Core.List.{List, [], ◌∷◌, ◌++◌}
use native.Mathlib.Omega.{arith}
use lib.Dec.{ltb, leb, eqb}
use lib.ListN.{length, get_or}
use borrow.Author.Tests.{ltb-true, leb-true, eqb-true, lt-ltb, le-ltb}
use Rattle.definition.specs.Basics.{Bytes, codes}
use Rattle.definition.specs.Utf8.{encode, encode_all, three, three_bytes, sequence, sequence_at}
use Rattle.definition.specs.Text.{byte_is}
use Rattle.definition.specs.Tables.{cps}
use Rattle.definition.specs.Matchers.{match_lit}
use Rattle.definition.specs.declared.Sequence.TheVariants.{Char}
use Rattle.lemmas.proofs.Cases.{by_test, both, either}
use Rattle.utf8.proofs.EncodingLaws.{encode_1, encode_3}
use Rattle.utf8.proofs.Character.{tail_bits_of}
use Rattle.laws_progress.proofs.Characters.{ascii_at}
use Rattle.laws_progress.proofs.Walks.{Walk, here, on, Onward, onward_walk, char_onward, byte_passes, Passes}
use Rattle.laws_progress.proofs.Ends.{Ends, ends_nothing, ends_to, ends_map}

ruleset tests = (lt-ltb, le-ltb)

-- the characters that words have: those of one byte, and those of three below the surrogates
abbrev pub plain : ℕ → Bool
plain c = ltb c 0x80 || (leb 0x800 c && ltb c 0xD800)

-- all characters of a word are such
abbrev pub all_plain : List ℕ → Bool
all_plain [] = true
all_plain (c ∷ cs) = plain c && all_plain cs

-- the code points of a word that begins with a character that passes a test
abbrev pub begins_with : (ℕ → Bool) → List ℕ → Bool
begins_with p [] = false
begins_with p (c ∷ cs) = p c && (plain c && all_plain cs)

-- all words of a table begin so
abbrev pub table_begins : (ℕ → Bool) → List String → Bool
table_begins p [] = true
table_begins p (e ∷ es) = begins_with p (codes e) && table_begins p es

-- three bytes that spell a character are read as it
spelled_three : (c b : ℕ) → 0x800 ≤ c → c < 0xD800 → sequence (0xE0 + c / 4096) (0x80 + c / 64 % 64) (0x80 + c % 64) b ≡ Char c 3
unfolding sequence three three_bytes
spelled_three c b h k =
    let h1 : 128 ≤ 0xE0 + c / 4096 = omega arith in
    let h2 : 194 ≤ 0xE0 + c / 4096 = omega arith in
    let h3 : 224 ≤ 0xE0 + c / 4096 = omega arith in
    let h4 : 0xE0 + c / 4096 < 240 = omega arith in
    let y1 : c / 64 % 64 < 64 = omega arith in
    let z1 : c % 64 < 64 = omega arith in
    let e : (0xE0 + c / 4096 - 224) * 4096 + c / 64 % 64 * 64 + c % 64 ≡ c = omega arith in
    simp (tests, tail_bits_of, e, sequence, three, three_bytes)

-- the same where they stand in a text
three_at : (s : Bytes) (i c : ℕ) → 0x800 ≤ c → c < 0xD800 → i < length s → get_or s i 0 ≡ 0xE0 + c / 4096
    → get_or s (i + 1) 0 ≡ 0x80 + c / 64 % 64 → get_or s (i + 2) 0 ≡ 0x80 + c % 64 → sequence_at s i ≡ Char c 3
unfolding sequence_at
three_at s i c h k n p q r = simp (lt-ltb _ _ n, p, q, r, sequence_at) (spelled_three c (get_or s (i + 3) 0) h k)

module _ (s : Bytes) where
  -- a byte that is given is the text's
  byte_equal : (b i : ℕ) → byte_is b s i ≡ true → (i < length s) × (get_or s i 0 ≡ b)
  byte_equal b i e = let h = byte_passes (λ x. eqb x b) s i e in (h.0, eqb-true _ _ h.1)

  module _ (P : ℕ → Type 0) where
    -- the first byte of a word
    lit_byte : (b : ℕ) (l : Bytes) (i : ℕ) → (byte_is b s i ≡ true → Ends P (match_lit s l (i + 1))) → Ends P (match_lit s (b ∷ l) i)
    unfolding match_lit
    lit_byte b l i h = by_test (Ends P) (byte_is b s i) h (λ _. ends_nothing)

    -- the first character of a word
    lit_char : (c : ℕ) → plain c ≡ true → (l : Bytes) (i : ℕ) → ((w : ℕ) → sequence_at s i ≡ Char c w → Ends P (match_lit s l (i + w))) → Ends P (match_lit s (encode c ++ l) i)
    lit_char c p l i rest = either (ltb c 0x80) _ (λ t. ascii (ltb-true _ _ t)) (λ t. let h = both _ _ t in wide (leb-true _ _ h.0) (ltb-true _ _ h.1)) p
      where
        ascii : c < 0x80 → Ends P (match_lit s (encode c ++ l) i)
        ascii h = rw (encode_1 c h) (lit_byte c l i λ t. let b = byte_equal c i t in rest 1 (rw b.1 at (ascii_at s i b.0 (omega (arith, b.1)))))

        wide : 0x800 ≤ c → c < 0xD800 → Ends P (match_lit s (encode c ++ l) i)
        wide h k =
            rw (encode_3 c h (omega arith))
            (lit_byte _ _ i λ t. lit_byte _ _ (i + 1) λ u. lit_byte _ _ (i + 1 + 1) λ v.
            let j : i + 1 + 1 ≡ i + 2 = omega arith in
            let n : i + 1 + 1 + 1 ≡ i + 3 = omega arith in
            let b = byte_equal _ i t in
            rw n (rest 3 (three_at s i c h k b.0 b.1 (byte_equal _ (i + 1) u).1 (byte_equal _ (i + 2) (rw j at v)).1)))

  -- a word is a walk
  codes_walk : (cs : List ℕ) → all_plain cs ≡ true → (i : ℕ) → Ends (Walk s i) (match_lit s (encode_all cs) i)
  unfolding encode_all match_lit
  codes_walk [] p i = ends_to (here refl)
  codes_walk (c ∷ cs) p i =
      let h = both (plain c) (all_plain cs) p in
      lit_char (Walk s i) c h.0 (encode_all cs) i λ w q. ends_map (λ e u. on c w q u) (codes_walk cs h.1 (i + w))

  -- the same of a word as it is spelled
  pub word_walk : (w : String) → all_plain (codes w) ≡ true → (i : ℕ) → Ends (Walk s i) (match_lit s (cps w) i)
  unfolding cps
  word_walk w p i = codes_walk (codes w) p i

  -- a word that begins with a character that passes a test
  pub record Begins (p : ℕ → Bool) (i e : ℕ) : Type 0 where
    pub onward : Onward s i e
    pub begins : Passes p s i

  -- a word of such code points
  codes_begin : (p : ℕ → Bool) (cs : List ℕ) → begins_with p cs ≡ true → (i : ℕ) → Ends (Begins p i) (match_lit s (encode_all cs) i)
  unfolding encode_all
  codes_begin p [] t i = absurd (false≢true t)
  codes_begin p (c ∷ cs) t i =
      let h = both (p c) (plain c && all_plain cs) t in
      let k = both (plain c) (all_plain cs) h.1 in
      lit_char (Begins p i) c k.0 (encode_all cs) i λ w q.
      ends_map (λ e u. record { onward = onward_walk (char_onward q) u; begins = record { code = c; width = w; read = q; passes = h.0 } })
      (codes_walk cs k.1 (i + w))

  -- the same of a word as it is spelled
  pub word_begins : (p : ℕ → Bool) (w : String) → begins_with p (codes w) ≡ true → (i : ℕ) → Ends (Begins p i) (match_lit s (cps w) i)
  unfolding cps
  word_begins p w t i = codes_begin p (codes w) t i

  -- a word of a character or more
  pub word_onward : (w : String) → begins_with (λ c. true) (codes w) ≡ true → (i : ℕ) → Ends (Onward s i) (match_lit s (cps w) i)
  word_onward w t i = ends_map (λ e b. b.onward) (word_begins (λ c. true) w t i)
