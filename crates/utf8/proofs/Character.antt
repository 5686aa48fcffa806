-- One character: what `sequence_at` reads is what `encode` writes, and the other way round, at any offset of any bytes.
-- Rests on `definition` and on `lemmas`.
use Prim.Native.Nat.{ℕ, ◌+◌, ◌-◌, ◌*◌, ◌/◌, ◌%◌, ◌≤◌, ◌<◌}
use mathlib.Core.Path.{◌≡◌, refl, sym, ap, ap₂, subst, ◌∙◌}
use mathlib.Core.List.{[], ◌∷◌, ◌++◌}
use mathlib.Core.Logic.{◌⊎◌, inl, inr}
use native.Mathlib.Omega.{arith}
use lib.ListN.{length, get_or, drop, length-append, length-drop}
use lib.Seq.{drop_at, drop-drop}
use Rattle.definition.specs.Basics.{Bytes}
use Rattle.definition.specs.Utf8.{encode, Scalar, tail_bits, two, three, three_bytes, four, four_bytes, sequence, sequence_at}
use Rattle.definition.specs.declared.Sequence.{Sequence}
use Rattle.definition.specs.declared.Sequence.TheVariants.{Char, Bad, End}
use Rattle.lemmas.proofs.Cases.{by_if_lt, tests}
use Rattle.utf8.proofs.EncodingLaws.{encode_1, encode_2, encode_3, encode_4}
use Rattle.utf8.proofs.Reading.{read_first, read_end, read_shift}
use Rattle.utf8.specs.Chars.{CharAt}

-- ---- what `encode` is, by the size of the code point

-- What holds of each of the four shapes holds of the encoding.
pub by_size : (P : Bytes → Type 0) (c : ℕ)
    → (c < 0x80 → P (c ∷ []))
    → (0x80 ≤ c → c < 0x800 → P ((0xC0 + c / 64) ∷ (0x80 + c % 64) ∷ []))
    → (0x800 ≤ c → c < 0x10000 → P ((0xE0 + c / 4096) ∷ (0x80 + c / 64 % 64) ∷ (0x80 + c % 64) ∷ []))
    → (0x10000 ≤ c → P ((0xF0 + c / 262144) ∷ (0x80 + c / 4096 % 64) ∷ (0x80 + c / 64 % 64) ∷ (0x80 + c % 64) ∷ []))
    → P (encode c)
unfolding encode
by_size P c p₁ p₂ p₃ p₄ = by_if_lt P c 0x80 p₁ (λ h. by_if_lt P c 0x800 (p₂ h) (λ h. by_if_lt P c 0x10000 (p₃ h) p₄))

-- An encoding has one to four bytes.
pub encode_size : (c : ℕ) → (1 ≤ length (encode c)) × (length (encode c) ≤ 4)
encode_size c = by_size (λ l. (1 ≤ length l) × (length l ≤ 4)) c (λ _. omega arith) (λ _ _. omega arith) (λ _ _. omega arith) (λ _. omega arith)

-- ---- what is written is read

-- A byte that continues a sequence gives its six bits back.
pub tail_bits_of : (y : ℕ) → y < 64 → tail_bits (0x80 + y) ≡ y
unfolding tail_bits
tail_bits_of y h =
    let h₁ : 0x80 ≤ 0x80 + y = omega arith in
    let h₂ : 0x80 + y < 0xC0 = omega arith in
    simp tests (omega arith)

-- A scalar value that has no shorter encoding is accepted of three bytes.
three_bytes_of : (c : ℕ) → 0x800 ≤ c → (c < 0xD800) ⊎ (0xE000 ≤ c) → three_bytes c ≡ Char c 3
unfolding three_bytes
three_bytes_of c h (inl p) = simp tests
three_bytes_of c h (inr p) = let p₁ : 0xD800 ≤ c = omega arith in simp tests

module _ (c : ℕ) (rest : Bytes) where
  -- One byte, with any bytes after it, is read as its code point and its width.
  read_1 : c < 0x80 → sequence_at (c ∷ rest) 0 ≡ Char c 1
  unfolding sequence
  read_1 h = simp (tests, read_first)

  -- Two bytes are.
  read_2 : 0x80 ≤ c → c < 0x800 → sequence_at ((0xC0 + c / 64) ∷ (0x80 + c % 64) ∷ rest) 0 ≡ Char c 2
  unfolding sequence two
  read_2 h k =
      let h₁ : 0x80 ≤ 0xC0 + c / 64 = omega arith in
      let h₂ : 0xC2 ≤ 0xC0 + c / 64 = omega arith in
      let h₃ : 0xC0 + c / 64 < 0xE0 = omega arith in
      let y : c % 64 < 64 = omega arith in
      simp (tests, read_first, tail_bits_of) (ap (λ (n : ℕ). Char n 2) (omega arith))

  -- Three bytes are, of no surrogate.
  read_3 : 0x800 ≤ c → c < 0x10000 → (c < 0xD800) ⊎ (0xE000 ≤ c)
      → sequence_at ((0xE0 + c / 4096) ∷ (0x80 + c / 64 % 64) ∷ (0x80 + c % 64) ∷ rest) 0 ≡ Char c 3
  unfolding sequence three
  read_3 h k p =
      let h₁ : 0x80 ≤ 0xE0 + c / 4096 = omega arith in
      let h₂ : 0xC2 ≤ 0xE0 + c / 4096 = omega arith in
      let h₃ : 0xE0 ≤ 0xE0 + c / 4096 = omega arith in
      let h₄ : 0xE0 + c / 4096 < 0xF0 = omega arith in
      let y : c / 64 % 64 < 64 = omega arith in
      let z : c % 64 < 64 = omega arith in
      let e : (0xE0 + c / 4096 - 0xE0) * 4096 + c / 64 % 64 * 64 + c % 64 ≡ c = omega arith in
      simp (tests, read_first, tail_bits_of, e) (three_bytes_of c h p)

  -- Four bytes are, up to 10FFFF.
  read_4 : 0x10000 ≤ c → c ≤ 0x10FFFF
      → sequence_at ((0xF0 + c / 262144) ∷ (0x80 + c / 4096 % 64) ∷ (0x80 + c / 64 % 64) ∷ (0x80 + c % 64) ∷ rest) 0 ≡ Char c 4
  unfolding sequence four four_bytes
  read_4 h k =
      let h₁ : 0x80 ≤ 0xF0 + c / 262144 = omega arith in
      let h₂ : 0xC2 ≤ 0xF0 + c / 262144 = omega arith in
      let h₃ : 0xE0 ≤ 0xF0 + c / 262144 = omega arith in
      let h₄ : 0xF0 ≤ 0xF0 + c / 262144 = omega arith in
      let h₅ : 0xF0 + c / 262144 < 0xF5 = omega arith in
      let x : c / 4096 % 64 < 64 = omega arith in
      let y : c / 64 % 64 < 64 = omega arith in
      let z : c % 64 < 64 = omega arith in
      let k₁ : c < 0x110000 = omega arith in
      let e : (0xF0 + c / 262144 - 0xF0) * 262144 + c / 4096 % 64 * 4096 + c / 64 % 64 * 64 + c % 64 ≡ c = omega arith in
      simp (tests, read_first, tail_bits_of, e)

-- A scalar value's own bytes, with any bytes after them, are read as it.
pub read_encode : (c : ℕ) → Scalar c → (rest : Bytes) → sequence_at (encode c ++ rest) 0 ≡ Char c (length (encode c))
read_encode c sc rest =
    by_size (λ l. sequence_at (l ++ rest) 0 ≡ Char c (length l)) c
    (read_1 c rest)
    (read_2 c rest)
    (λ h k. read_3 c rest h k sc.no_surrogate)
    (λ h. read_4 c rest h sc.small)

-- ---- what is read was written

-- What is read of the bytes l is right: a character is a scalar value, and l begins with its encoding; and the end is read of no bytes.
abbrev Reads : Bytes → Sequence → Type 0
Reads l (Char c w) = Scalar c × (w ≡ length (encode c)) × (l ≡ encode c ++ drop w l)
Reads l Bad = Unit {0}
Reads l End = length l ≡ 0

-- A byte whose bits are six is 80 and those bits.
tail_byte : (b : ℕ) → tail_bits b < 64 → b ≡ 0x80 + tail_bits b
unfolding tail_bits
tail_byte b = by_if_lt P b 0x80 (λ h k. omega arith) (λ h. by_if_lt P b 0xC0 (λ j k. omega arith) (λ j k. omega arith))
  where
    P : ℕ → Type 0
    P n = n < 64 → b ≡ 0x80 + n

-- Where l is the encoding of c, what l starts is read rightly as c.
spelled : {c w : ℕ} (l rest : Bytes) → Scalar c → encode c ≡ l → length l ≡ w → Reads (l ++ rest) (Char c w)
spelled {c} {w} l rest sc e n = (
  sc,
  sym n ∙ ap length (sym e),
  ap (λ (p : Bytes). p ++ rest) (sym e) ∙ ap (λ (q : Bytes). encode c ++ q) (sym (drop_at l rest w n)),
)

-- The bits of two bytes are written as those bytes.
write_2 : (x y : ℕ) → 2 ≤ x → x < 32 → y < 64 → encode (x * 64 + y) ≡ (0xC0 + x) ∷ (0x80 + y) ∷ []
write_2 x y h k l =
    let e₁ : 0xC0 + (x * 64 + y) / 64 ≡ 0xC0 + x = omega arith in
    let e₂ : 0x80 + (x * 64 + y) % 64 ≡ 0x80 + y = omega arith in
    encode_2 (x * 64 + y) (omega arith) (omega arith) ∙ (cc)

-- Those of three are, where two don't hold them.
write_3 : (x y z : ℕ) → 0x800 ≤ x * 4096 + y * 64 + z → x < 16 → y < 64 → z < 64
    → encode (x * 4096 + y * 64 + z) ≡ (0xE0 + x) ∷ (0x80 + y) ∷ (0x80 + z) ∷ []
write_3 x y z h k l m =
    let e₁ : 0xE0 + (x * 4096 + y * 64 + z) / 4096 ≡ 0xE0 + x = omega arith in
    let e₂ : 0x80 + (x * 4096 + y * 64 + z) / 64 % 64 ≡ 0x80 + y = omega arith in
    let e₃ : 0x80 + (x * 4096 + y * 64 + z) % 64 ≡ 0x80 + z = omega arith in
    encode_3 (x * 4096 + y * 64 + z) h (omega arith) ∙ (cc)

-- Those of four are, where three don't hold them.
write_4 : (x y z t : ℕ) → 0x10000 ≤ x * 262144 + y * 4096 + z * 64 + t → y < 64 → z < 64 → t < 64
    → encode (x * 262144 + y * 4096 + z * 64 + t) ≡ (0xF0 + x) ∷ (0x80 + y) ∷ (0x80 + z) ∷ (0x80 + t) ∷ []
write_4 x y z t h k l m =
    let e₁ : 0xF0 + (x * 262144 + y * 4096 + z * 64 + t) / 262144 ≡ 0xF0 + x = omega arith in
    let e₂ : 0x80 + (x * 262144 + y * 4096 + z * 64 + t) / 4096 % 64 ≡ 0x80 + y = omega arith in
    let e₃ : 0x80 + (x * 262144 + y * 4096 + z * 64 + t) / 64 % 64 ≡ 0x80 + z = omega arith in
    let e₄ : 0x80 + (x * 262144 + y * 4096 + z * 64 + t) % 64 ≡ 0x80 + t = omega arith in
    encode_4 (x * 262144 + y * 4096 + z * 64 + t) h ∙ (cc)

-- After a first byte of two, what is read is right.
reads_2 : (b x : ℕ) (l : Bytes) → b ≡ 0xC0 + x → 2 ≤ x → x < 32 → Reads (b ∷ l) (two x (tail_bits (get_or l 0 0)))
unfolding two tail_bits
reads_2 b x [] e h k = tt
reads_2 b x (d ∷ l) e h k =
    by_if_lt (Reads (b ∷ d ∷ l)) (tail_bits d) 64
    (λ y. spelled (b ∷ d ∷ []) l (record { small = omega arith; no_surrogate = inl (omega arith) }) (is y) refl)
    (λ _. tt)
  where
    is : tail_bits d < 64 → encode (x * 64 + tail_bits d) ≡ b ∷ d ∷ []
    is y = write_2 x (tail_bits d) h k y ∙ ap₂ (λ (m n : ℕ). m ∷ n ∷ []) (sym e) (sym (tail_byte d y))

-- After a first byte of three, what is read is right.
reads_3 : (b x : ℕ) (l : Bytes) → b ≡ 0xE0 + x → x < 16 → Reads (b ∷ l) (three x (tail_bits (get_or l 0 0)) (tail_bits (get_or l 1 0)))
unfolding three tail_bits three_bytes
reads_3 b x [] e k = tt
reads_3 b x (d ∷ []) e k = by_if_lt (Reads (b ∷ d ∷ [])) (tail_bits d) 64 (λ _. tt) (λ _. tt)
reads_3 b x (d ∷ f ∷ l) e k =
    by_if_lt R (tail_bits d) 64 (λ y. by_if_lt R (tail_bits f) 64 (code y) (λ _. tt)) (λ _. tt)
  where
    R : Sequence → Type 0
    R = Reads (b ∷ d ∷ f ∷ l)

    C : ℕ
    C = x * 4096 + tail_bits d * 64 + tail_bits f

    is : tail_bits d < 64 → tail_bits f < 64 → 0x800 ≤ C → encode C ≡ b ∷ d ∷ f ∷ []
    is y z h =
        let e₂ : d ≡ 0x80 + tail_bits d = tail_byte d y in
        let e₃ : f ≡ 0x80 + tail_bits f = tail_byte f z in
        write_3 x (tail_bits d) (tail_bits f) h k y z ∙ (cc)

    right : tail_bits d < 64 → tail_bits f < 64 → 0x800 ≤ C → (C < 0xD800) ⊎ (0xE000 ≤ C) → R (Char C 3)
    right y z h p = spelled (b ∷ d ∷ f ∷ []) l (record { small = omega arith; no_surrogate = p }) (is y z h) refl

    code : tail_bits d < 64 → tail_bits f < 64 → R (three_bytes C)
    code y z =
        by_if_lt R C 0x800 (λ _. tt)
        (λ h. by_if_lt R C 0xD800 (λ p. right y z h (inl p)) (λ _. by_if_lt R C 0xE000 (λ _. tt) (λ p. right y z h (inr p))))

-- After a first byte of four, what is read is right.
reads_4 : (b x : ℕ) (l : Bytes) → b ≡ 0xF0 + x
    → Reads (b ∷ l) (four x (tail_bits (get_or l 0 0)) (tail_bits (get_or l 1 0)) (tail_bits (get_or l 2 0)))
unfolding four tail_bits four_bytes
reads_4 b x [] e = tt
reads_4 b x (d ∷ []) e = by_if_lt (Reads (b ∷ d ∷ [])) (tail_bits d) 64 (λ _. tt) (λ _. tt)
reads_4 b x (d ∷ f ∷ []) e = by_if_lt R (tail_bits d) 64 (λ _. by_if_lt R (tail_bits f) 64 (λ _. tt) (λ _. tt)) (λ _. tt)
  where
    R : Sequence → Type 0
    R = Reads (b ∷ d ∷ f ∷ [])
reads_4 b x (d ∷ f ∷ g ∷ l) e =
    by_if_lt R (tail_bits d) 64 (λ y. by_if_lt R (tail_bits f) 64 (λ z. by_if_lt R (tail_bits g) 64 (code y z) (λ _. tt)) (λ _. tt)) (λ _. tt)
  where
    R : Sequence → Type 0
    R = Reads (b ∷ d ∷ f ∷ g ∷ l)

    C : ℕ
    C = x * 262144 + tail_bits d * 4096 + tail_bits f * 64 + tail_bits g

    is : tail_bits d < 64 → tail_bits f < 64 → tail_bits g < 64 → 0x10000 ≤ C → encode C ≡ b ∷ d ∷ f ∷ g ∷ []
    is y z t h =
        let e₂ : d ≡ 0x80 + tail_bits d = tail_byte d y in
        let e₃ : f ≡ 0x80 + tail_bits f = tail_byte f z in
        let e₄ : g ≡ 0x80 + tail_bits g = tail_byte g t in
        write_4 x (tail_bits d) (tail_bits f) (tail_bits g) h y z t ∙ (cc)

    right : tail_bits d < 64 → tail_bits f < 64 → tail_bits g < 64 → 0x10000 ≤ C → C < 0x110000 → R (Char C 4)
    right y z t h p = spelled (b ∷ d ∷ f ∷ g ∷ []) l (record { small = omega arith; no_surrogate = inr (omega arith) }) (is y z t h) refl

    code : tail_bits d < 64 → tail_bits f < 64 → tail_bits g < 64 → R (four_bytes C)
    code y z t = by_if_lt R C 0x10000 (λ _. tt) (λ h. by_if_lt R C 0x110000 (right y z t h) (λ _. tt))

-- Whatever the bytes are, what is read at their start is right.
reads : (l : Bytes) → Reads l (sequence_at l 0)
unfolding sequence
reads [] = rw (read_end [] 0 (omega arith))
reads (b ∷ l) =
    rw read_first
    (by_if_lt R b 0x80 (λ h. spelled (b ∷ []) l (record { small = omega arith; no_surrogate = inl (omega arith) }) (encode_1 b h) refl)
    (λ _. by_if_lt R b 0xC2 (λ _. tt)
    (λ h. by_if_lt R b 0xE0 (λ k. reads_2 b (b - 0xC0) l (omega arith) (omega arith) (omega arith))
    (λ h. by_if_lt R b 0xF0 (λ k. reads_3 b (b - 0xE0) l (omega arith) (omega arith))
    (λ h. by_if_lt R b 0xF5 (λ k. reads_4 b (b - 0xF0) l (omega arith)) (λ _. tt))))))
  where
    R : Sequence → Type 0
    R = Reads (b ∷ l)

-- ---- at any offset

-- A character that is read at i stands there.
pub char_read : {s : Bytes} {i c w : ℕ} → sequence_at s i ≡ Char c w → CharAt s i c w
char_read {s} {i} {c} {w} e =
    let r : Reads (drop i s) (Char c w) = subst (Reads (drop i s)) (sym (read_shift s i) ∙ e) (reads (drop i s)) in
    record { scalar = r.0; width = r.1; bytes = r.2 ∙ ap (λ (q : Bytes). encode c ++ q) (drop-drop w i s) }

-- Only past the end the end is read.
pub end_read : (s : Bytes) (i : ℕ) → sequence_at s i ≡ End → length s ≤ i
end_read s i e =
    let r : Reads (drop i s) End = subst (Reads (drop i s)) (sym (read_shift s i) ∙ e) (reads (drop i s)) in
    omega (arith, r, length-drop i s)

-- A scalar value whose encoding stands at i is read there.
pub read_at : (s : Bytes) (i c : ℕ) (rest : Bytes) → Scalar c → drop i s ≡ encode c ++ rest → sequence_at s i ≡ Char c (length (encode c))
read_at s i c rest sc e = read_shift s i ∙ ap (λ (l : Bytes). sequence_at l 0) e ∙ read_encode c sc rest

-- A character that stands at i is read there.
pub read_char : {s : Bytes} {i c w : ℕ} → CharAt s i c w → sequence_at s i ≡ Char c w
read_char {s} {i} {c} {w} a = read_at s i c (drop (i + w) s) a.scalar a.bytes ∙ ap (Char c) (sym a.width)

-- A character has a byte at least, and ends within the text.
pub char_within : {s : Bytes} {i c w : ℕ} → CharAt s i c w → (1 ≤ w) × (i + w ≤ length s)
char_within {s} {i} {c} {w} a =
    let n : length (drop i s) ≡ length (encode c ++ drop (i + w) s) = ap length a.bytes in
    omega (arith, a.width, (encode_size c).0, length-append (encode c) (drop (i + w) s), length-drop i s, length-drop (i + w) s)

-- The same of one that the code read: q is its answer.
pub decoded_within : (s : Bytes) (i : ℕ) {q : Sequence} {c w : ℕ} → q ≡ sequence_at s i → q ≡ Char c w → (1 ≤ w) × (i + w ≤ length s)
decoded_within s i read is = char_within (char_read (sym read ∙ is))
