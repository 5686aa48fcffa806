-- What `sequence_at`, `byte`, `get` and `next` are, an equation for each arm of their definitions. Rests on `definition` and on `lemmas`.
use Rattle.std.specs.Prelude.{Some, None}
use Prim.Native.Nat.{ℕ, ◌+◌, ◌≤◌, ◌<◌}
use mathlib.Core.Path.{◌≡◌, refl, sym, ap, ◌∙◌}
use mathlib.Core.List.{◌∷◌}
use native.Mathlib.Nat.{add-zero}
use native.Mathlib.Omega.{arith}
use lib.ListN.{length, get_or, drop, length-drop}
use lib.Seq.{get_or-drop}
use Rattle.definition.specs.Basics.{Bytes}
use Rattle.definition.specs.Utf8.{sequence, sequence_at}
use Rattle.definition.specs.Text.{with_char, get, next, byte}
use Rattle.definition.specs.declared.Sequence.{Sequence}
use Rattle.definition.specs.declared.Sequence.TheVariants.{Char, Bad, End}
use Rattle.lemmas.proofs.Cases.{tests, by_order}

-- ---- what stands at an offset

-- Within the text the bytes there decide.
pub read_within : (s : Bytes) (i : ℕ) → i < length s → sequence_at s i ≡ sequence (get_or s i 0) (get_or s (i + 1) 0) (get_or s (i + 2) 0) (get_or s (i + 3) 0)
unfolding sequence_at
read_within s i h = simp (sequence_at, tests)

-- Past the end the end is read.
pub read_end : (s : Bytes) (i : ℕ) → length s ≤ i → sequence_at s i ≡ End
unfolding sequence_at
read_end s i h = simp (sequence_at, tests)

-- At the start of some bytes the first four decide.
pub read_first : (b : ℕ) (l : Bytes) → sequence_at (b ∷ l) 0 ≡ sequence b (get_or l 0 0) (get_or l 1 0) (get_or l 2 0)
read_first b l = read_within (b ∷ l) 0 (omega arith)

-- What stands at i is what the bytes from i on start with.
pub read_shift : (s : Bytes) (i : ℕ) → sequence_at s i ≡ sequence_at (drop i s) 0
read_shift s i = by_order i (length s) inside past
  where
    inside : i < length s → sequence_at s i ≡ sequence_at (drop i s) 0
    inside h =
        let k : 0 < length (drop i s) = simp length-drop (omega arith) in
        rw (read_within s i h, read_within (drop i s) 0 k) (simp (get_or-drop, add-zero))

    past : length s ≤ i → sequence_at s i ≡ sequence_at (drop i s) 0
    past h =
        let k : length (drop i s) ≤ 0 = simp length-drop (omega arith) in
        read_end s i h ∙ sym (read_end (drop i s) 0 k)

-- ---- the byte, the character and the offset after it

-- Within the text there is a byte.
pub byte_within : (s : Bytes) (i : ℕ) → i < length s → byte s i ≡ Some (get_or s i 0)
unfolding byte
byte_within s i h = simp (byte, tests)

-- Past the end there is none.
pub byte_end : (s : Bytes) (i : ℕ) → length s ≤ i → byte s i ≡ None
unfolding byte
byte_end s i h = simp (byte, tests)

-- `get` sees nothing but what stands at the offset.
pub get_of : (s : Bytes) (i : ℕ) {t : Sequence} → sequence_at s i ≡ t → get s i ≡ with_char t i (λ c j. Some c) None
unfolding get
get_of s i e = ap (λ (t : Sequence). with_char t i (λ c j. Some c) None) e

-- `next` sees nothing else either.
pub next_of : (s : Bytes) (i : ℕ) {t : Sequence} → sequence_at s i ≡ t → next s i ≡ with_char t i (λ c j. Some j) None
unfolding next
next_of s i e = ap (λ (t : Sequence). with_char t i (λ c j. Some j) None) e

-- ---- where no character stands

-- What is read is no character.
abbrev pub NoChar : Sequence → Type 0
NoChar (Char c w) = ⊥
NoChar Bad = Unit {0}
NoChar End = Unit {0}

-- Then `with_char` gives its other answer.
pub with_none : {X : Type 0} (t : Sequence) (i : ℕ) (f : ℕ → ℕ → X) (x : X) → NoChar t → with_char t i f x ≡ x
with_none (Char c w) i f x h = absurd h
with_none Bad i f x h = refl
with_none End i f x h = refl
