-- Boundaries: where characters start. Rests on `definition`, `lemmas` and the laws of characters and runs.
use Prim.Native.Nat.{ℕ, zero, suc, ◌+◌, ◌-◌, ◌/◌, ◌%◌, ◌≤◌, ◌<◌, zero-le}
use mathlib.Core.Path.{◌≡◌, refl, sym, ap, ap₂, subst, ◌∙◌}
use mathlib.Core.Bool.{true, false, not}
use mathlib.Core.List.{List, [], ◌∷◌, ◌++◌, append_assoc}
use native.Mathlib.Nat.{add-zero}
use native.Mathlib.Omega.{arith}
use lib.Dec.{eqb}
use lib.ListN.{length, get_or, take, drop, length-append, take-append-drop, get_or-append}
use lib.Seq.{take_at, take-length, take-add, take-take, get_or-drop, slice, length-slice}
use borrow.Author.Tests.{le-leb, lt-leb, eq-eqb, eqb-true, not-true}
use Rattle.definition.specs.Basics.{Bytes}
use Rattle.definition.specs.Utf8.{encode, Scalars, encode_all, Legal, Boundary, sequence_at}
use Rattle.definition.specs.Position.{is_continuation}
use Rattle.definition.specs.State.{at_character}
use Rattle.definition.specs.declared.Sequence.TheVariants.{Char}
use Rattle.lemmas.proofs.Cases.{tests, by_order}
use Rattle.lemmas.proofs.Lists.{slice_then_drop}
use Rattle.utf8.specs.Chars.{CharAt, CharTo, Rest, chars_from}
use Rattle.utf8.proofs.Reading.{NoChar}
use Rattle.utf8.proofs.Character.{by_size, char_read, read_at, read_char, char_within}
use Rattle.utf8.proofs.Runs.{by_chars, chars_are, encode_append, encode_one, scalars_append, Split, split}

-- ---- the boundaries that there are

-- Any bytes have one at 0.
pub boundary_start : (s : Bytes) → Boundary s 0
unfolding encode_all
boundary_start s = record { within = zero-le; before = record { chars = []; scalars = tt; bytes = refl } }

-- Legal bytes have one at their end.
pub boundary_end : {s : Bytes} → Legal s → Boundary s (length s)
boundary_end {s} l = record { within = omega arith; before = record { chars = l.chars; scalars = l.scalars; bytes = take-length s ∙ l.bytes } }

-- Bytes that have one at their end are legal.
pub legal_whole : {s : Bytes} → Boundary s (length s) → Legal s
legal_whole {s} b = record { chars = b.before.chars; scalars = b.before.scalars; bytes = sym (take-length s) ∙ b.before.bytes }

-- Past a character at a boundary stands the next.
pub boundary_next : {s : Bytes} {i c w : ℕ} → Boundary s i → CharAt s i c w → Boundary s (i + w)
boundary_next {s} {i} {c} {w} b a = record {
  within = (char_within a).1;
  before = record {
    chars = b.before.chars ++ (c ∷ []);
    scalars = scalars_append b.before.chars (c ∷ []) b.before.scalars (a.scalar, tt);
    bytes =
        take-add i w s
        ∙ ap₂ (λ (x y : Bytes). x ++ y) b.before.bytes (ap (take w) a.bytes ∙ take_at (encode c) (drop (i + w) s) w (sym a.width) ∙ sym (encode_one c))
        ∙ sym (encode_append b.before.chars (c ∷ []));
  };
}

-- ---- the bytes after and between them

-- What stands after a boundary of legal bytes is the encoding of the characters that are read there.
pub rest_is : {s : Bytes} {i : ℕ} → Legal s → Boundary s i → Rest s i (chars_from s i)
rest_is {s} {i} l b =
    let r : Split l.chars b.before.chars (drop i s) =
    split l.chars b.before.chars (drop i s) l.scalars b.before.scalars
    (ap (λ (x : Bytes). x ++ drop i s) (sym b.before.bytes) ∙ take-append-drop i s ∙ l.bytes)
    in
    subst (Rest s i) (sym (chars_are s r.others i r.scalars r.bytes)) (record { scalars = r.scalars; bytes = r.bytes })

-- The bytes between two boundaries are legal.
pub between_legal : {s : Bytes} {i j : ℕ} → Boundary s i → Boundary s j → i ≤ j → Legal (slice i j s)
between_legal {s} {i} {j} b d h =
    let r : Split d.before.chars b.before.chars (slice i j s) =
    split d.before.chars b.before.chars (slice i j s) d.before.scalars b.before.scalars
    (ap (λ (x : Bytes). x ++ slice i j s) (sym b.before.bytes ∙ sym (take-take i j s h)) ∙ take-append-drop i (take j s) ∙ d.before.bytes)
    in
    record { chars = r.others; scalars = r.scalars; bytes = r.bytes }

-- At a boundary with another after it stands a character, and it ends at that other or before it.
pub char_before : {s : Bytes} {i j : ℕ} → Boundary s i → Boundary s j → i < j → CharTo s i j
unfolding encode_all
char_before {s} {i} {j} b d h =
    let l = between_legal b d (omega arith) in
    go l.chars l.scalars l.bytes
  where
    n : length (slice i j s) ≡ j - i
    n = length-slice i j s d.within

    go : (cs : List ℕ) → Scalars cs → slice i j s ≡ encode_all cs → CharTo s i j
    go [] sc e = absurd (omega (arith, n, ap length e))
    go (c ∷ cs) sc e =
        let rest : drop i s ≡ encode c ++ (encode_all cs ++ drop j s) =
        sym (slice_then_drop i j s (omega arith) d.within) ∙ ap (λ (x : Bytes). x ++ drop j s) e ∙ append_assoc (encode c) (encode_all cs) (drop j s)
        in
        record {
          code = c;
          width = length (encode c);
          stands = char_read (read_at s i c (encode_all cs ++ drop j s) sc.0 rest);
          ends = omega (arith, n, ap length e, length-append (encode c) (encode_all cs));
        }

-- ---- a boundary by its byte

-- Each byte continues a character.
abbrev Continue : Bytes → Type 0
Continue [] = Unit {0}
Continue (b ∷ l) = (is_continuation b ≡ true) × Continue l

-- A byte 80 to BF does.
continues : (n : ℕ) → n < 64 → is_continuation (0x80 + n) ≡ true
unfolding is_continuation
continues n h = simp (le-leb 0x80 (0x80 + n) (omega arith), le-leb (0x80 + n) 0xBF (omega arith))

-- A lower one doesn't.
starts_low : (b : ℕ) → b < 0x80 → is_continuation b ≡ false
unfolding is_continuation
starts_low b h = simp (lt-leb 0x80 b h)

-- Nor does a higher one.
starts_high : (b : ℕ) → 0xBF < b → is_continuation b ≡ false
unfolding is_continuation
starts_high b h = simp (le-leb 0x80 b (omega arith), lt-leb b 0xBF h)

-- The first byte of some bytes continues no character, and each other does.
abbrev Starts : Bytes → Type 0
Starts [] = ⊥
Starts (b ∷ l) = (is_continuation b ≡ false) × Continue l

-- An encoding is such bytes.
encode_starts : (c : ℕ) → Starts (encode c)
encode_starts c =
    by_size Starts c
    (λ h. (starts_low c h, tt))
    (λ h k. (starts_high (0xC0 + c / 64) (omega arith), (z, tt)))
    (λ h k. (starts_high (0xE0 + c / 4096) (omega arith), (y, (z, tt))))
    (λ h. (starts_high (0xF0 + c / 262144) (omega arith), (x, (y, (z, tt)))))
  where
    x : is_continuation (0x80 + c / 4096 % 64) ≡ true
    x = continues (c / 4096 % 64) (omega arith)

    y : is_continuation (0x80 + c / 64 % 64) ≡ true
    y = continues (c / 64 % 64) (omega arith)

    z : is_continuation (0x80 + c % 64) ≡ true
    z = continues (c % 64) (omega arith)

-- So the first byte of an encoding continues none.
starts_first : (l : Bytes) → Starts l → is_continuation (get_or l 0 0) ≡ false
starts_first [] h = absurd h
starts_first (b ∷ l) h = h.0

-- Where each byte continues one, so does the one at k.
continue_at : (l : Bytes) (k : ℕ) → Continue l → k < length l → is_continuation (get_or l k 0) ≡ true
continue_at [] k h n = absurd (omega arith)
continue_at (b ∷ l) zero h n = h.0
continue_at (b ∷ l) (suc k) h n = continue_at l k h.1 (omega arith)

-- So each later byte of an encoding does.
starts_later : (l : Bytes) (k : ℕ) → Starts l → suc k < length l → is_continuation (get_or l (suc k) 0) ≡ true
starts_later [] k h n = absurd h
starts_later (b ∷ l) k h n = continue_at l k h.1 (omega arith)

module _ {s : Bytes} {i c w : ℕ} (a : CharAt s i c w) where
  -- A character's bytes are those of its encoding.
  byte_in : (k : ℕ) → k < w → get_or s (i + k) 0 ≡ get_or (encode c) k 0
  byte_in k h =
      sym (get_or-drop i s k 0) ∙ ap (λ (l : Bytes). get_or l k 0) a.bytes
      ∙ get_or-append (encode c) (drop (i + w) s) 0 k (omega (arith, a.width))

  -- Its first byte continues no character.
  pub char_starts : is_continuation (get_or s i 0) ≡ false
  char_starts =
      ap (λ (k : ℕ). is_continuation (get_or s k 0)) (sym (add-zero i))
      ∙ ap is_continuation (byte_in 0 (omega (arith, (char_within a).0)))
      ∙ starts_first (encode c) (encode_starts c)

  -- Its other bytes do.
  pub char_continues : (k : ℕ) → i < k → k < i + w → is_continuation (get_or s k 0) ≡ true
  char_continues k h l =
      let e : k ≡ i + suc (k - suc i) = omega arith in
      ap (λ (n : ℕ). is_continuation (get_or s n 0)) e
      ∙ ap is_continuation (byte_in (suc (k - suc i)) (omega arith))
      ∙ starts_later (encode c) (k - suc i) (encode_starts c) (omega (arith, a.width))

-- Within the text `at_character` asks for the byte.
character_inside : (s : Bytes) (i : ℕ) → i < length s → at_character s i ≡ not (is_continuation (get_or s i 0))
unfolding at_character
character_inside s i h = simp tests

-- Past it, only the end passes.
character_past : (s : Bytes) (i : ℕ) → length s ≤ i → at_character s i ≡ eqb i (length s)
unfolding at_character
character_past s i h = simp tests

-- A boundary of legal bytes is at a character or the end.
pub boundary_character : {s : Bytes} {i : ℕ} → Legal s → Boundary s i → at_character s i ≡ true
boundary_character {s} {i} l b =
    by_order i (length s)
    (λ h. character_inside s i h ∙ ap not (char_starts (char_before b (boundary_end l) h).stands))
    (λ h. character_past s i h ∙ eq-eqb i (length s) (omega (arith, b.within)))

-- And such an offset is a boundary.
pub character_boundary : {s : Bytes} (i : ℕ) → Legal s → at_character s i ≡ true → Boundary s i
character_boundary {s} i l t = by_order i (length s) inside past
  where
    past : length s ≤ i → Boundary s i
    past h = subst (Boundary s) (sym (eqb-true i (length s) (sym (character_past s i h) ∙ t))) (boundary_end l)

    inside : i < length s → Boundary s i
    inside h = by_chars s (λ j. Boundary s j → j ≤ i → Boundary s i) none some 0 (boundary_start s) zero-le
      where
        first : is_continuation (get_or s i 0) ≡ false
        first = not-true (is_continuation (get_or s i 0)) (sym (character_inside s i h) ∙ t)

        none : (j : ℕ) → NoChar (sequence_at s j) → Boundary s j → j ≤ i → Boundary s i
        none j n b k = absurd (rw (read_char (char_before b (boundary_end l) (omega arith)).stands) at n)

        within : (j c w : ℕ) → CharAt s j c w → j < i → i < j + w → ⊥
        within j c w a m k =
            let p : is_continuation (get_or s i 0) ≡ true = char_continues a i m k in
            let z : ◌≡◌ {A = ℕ} 0 1 = cc first in
            omega arith

        some : (j c w : ℕ) → sequence_at s j ≡ Char c w → (Boundary s (j + w) → j + w ≤ i → Boundary s i) → Boundary s j → j ≤ i → Boundary s i
        some j c w e ih b k =
            by_order i (j + w)
            (λ m. by_order j i (λ o. absurd (within j c w (char_read e) o m)) (λ o. subst (Boundary s) (omega arith) b))
            (ih (boundary_next b (char_read e)))
