-- Runs of characters: induction over the characters of a text, the characters that are read from an offset on, and that bytes are the
-- encoding of one list of scalar values at most. Rests on `definition`, `lemmas` and the laws of one character.
use Prim.Native.Nat.{ℕ, zero, suc, ◌+◌, ◌≤◌}
use mathlib.Core.Path.{◌≡◌, refl, sym, ap, ap₂, ◌∙◌}
use mathlib.Core.List.{List, [], ◌∷◌, ◌++◌, append_assoc, append-nil}
use native.Mathlib.Omega.{arith}
use lib.ListN.{length, drop, length-append, length-drop}
use lib.Seq.{drop_at, drop-drop, drop-append_seam}
use Rattle.definition.specs.Basics.{Bytes}
use Rattle.definition.specs.Utf8.{encode, Scalar, Scalars, encode_all, sequence_at}
use Rattle.definition.specs.declared.Sequence.{Sequence}
use Rattle.definition.specs.declared.Sequence.TheVariants.{Char, Bad, End}
use Rattle.utf8.specs.Chars.{chars, chars_from}
use Rattle.utf8.proofs.Reading.{read_end, NoChar, with_none}
use Rattle.utf8.proofs.Character.{char_read, char_within, read_encode, read_at, encode_size}

-- ---- induction over the characters of a text

module _ (s : Bytes) where
  -- At an offset stands a character or none.
  pub by_char : {X : Type 0} (i : ℕ) → ((c w : ℕ) → sequence_at s i ≡ Char c w → X) → (NoChar (sequence_at s i) → X) → X
  by_char {X} i some none = go (sequence_at s i) refl
    where
      go : (t : Sequence) → sequence_at s i ≡ t → X
      go (Char c w) e = some c w e
      go Bad e = none (rw e tt)
      go End e = none (rw e tt)

  -- What holds where no character stands, and of a character from what follows it, holds everywhere; n and m count turns, and there
  -- are enough of both.
  pub by_turns : (P : ℕ → ℕ → ℕ → Type 0)
      → ((n m i : ℕ) → NoChar (sequence_at s i) → P n m i)
      → ((n m i c w : ℕ) → sequence_at s i ≡ Char c w → P n m (i + w) → P (suc n) (suc m) i)
      → (n m i : ℕ) → length s ≤ i + n → length s ≤ i + m → P n m i
  by_turns P none some zero m i h k = none zero m i (rw (read_end s i (omega arith)) tt)
  by_turns P none some (suc n) zero i h k = none (suc n) zero i (rw (read_end s i (omega arith)) tt)
  by_turns P none some (suc n) (suc m) i h k = by_char i (on (λ j. by_turns P none some n m j)) (none (suc n) (suc m) i)
    where
      on : ((j : ℕ) → length s ≤ j + n → length s ≤ j + m → P n m j) → (c w : ℕ) → sequence_at s i ≡ Char c w → P (suc n) (suc m) i
      on ih c w e =
          let a = char_within (char_read e) in
          some n m i c w e (ih (i + w) (omega (arith, a.0)) (omega (arith, a.0)))

  -- The same with no turns to count.
  pub by_chars : (P : ℕ → Type 0)
      → ((i : ℕ) → NoChar (sequence_at s i) → P i)
      → ((i c w : ℕ) → sequence_at s i ≡ Char c w → P (i + w) → P i)
      → (i : ℕ) → P i
  by_chars P none some i = by_turns (λ n m j. P j) (λ n m. none) (λ n m. some) (length s) (length s) i (omega arith) (omega arith)

  -- ---- the characters from an offset on

  -- A character comes before those after it.
  chars_turn : (n i c w : ℕ) → sequence_at s i ≡ Char c w → chars (suc n) s i ≡ c ∷ chars n s (i + w)
  unfolding chars
  chars_turn n i c w e = rw e

  -- Where none stands there are no characters.
  chars_stop : (n i : ℕ) → NoChar (sequence_at s i) → chars n s i ≡ []
  unfolding chars
  chars_stop zero i h = refl
  chars_stop (suc n) i h = with_none (sequence_at s i) i _ _ h

  -- With enough turns, how many there are doesn't matter.
  chars_enough : (n m i : ℕ) → length s ≤ i + n → length s ≤ i + m → chars n s i ≡ chars m s i
  chars_enough =
      by_turns (λ n m i. chars n s i ≡ chars m s i)
      (λ n m i h. chars_stop n i h ∙ sym (chars_stop m i h))
      (λ n m i c w e ih. chars_turn n i c w e ∙ ap (λ (l : List ℕ). c ∷ l) ih ∙ sym (chars_turn m i c w e))

  -- The characters from a character on are it and those from its end on.
  pub chars_on : (i c w : ℕ) → sequence_at s i ≡ Char c w → chars_from s i ≡ c ∷ chars_from s (i + w)
  unfolding chars_from
  chars_on i c w e =
      chars_turn (length s) i c w e
      ∙ ap (λ (l : List ℕ). c ∷ l) (chars_enough (length s) (suc (length s)) (i + w) (omega arith) (omega arith))

  -- Where none stands there are none.
  pub chars_none : (i : ℕ) → NoChar (sequence_at s i) → chars_from s i ≡ []
  unfolding chars_from
  chars_none i h = chars_stop (suc (length s)) i h

  -- Past a character's encoding stands what follows it.
  pub drop_next : (i c : ℕ) (rest : Bytes) → drop i s ≡ encode c ++ rest → drop (i + length (encode c)) s ≡ rest
  drop_next i c rest e = sym (drop-drop (length (encode c)) i s) ∙ ap (drop (length (encode c))) e ∙ drop-append_seam (encode c) rest

  -- Where the rest is the encoding of scalar values, those are the characters.
  pub chars_are : (cs : List ℕ) (i : ℕ) → Scalars cs → drop i s ≡ encode_all cs → chars_from s i ≡ cs
  unfolding encode_all
  chars_are [] i sc e =
      let n : length s ≤ i = omega (arith, length-drop i s, ap length e) in
      chars_none i (rw (read_end s i n) tt)
  chars_are (c ∷ cs) i sc e =
      chars_on i c (length (encode c)) (read_at s i c (encode_all cs) sc.0 e)
      ∙ ap (λ (l : List ℕ). c ∷ l) (chars_are cs (i + length (encode c)) sc.1 (drop_next i c (encode_all cs) e))

-- ---- lists of scalar values

-- The encoding of two lists in a row is their encodings in a row.
pub encode_append : (xs ys : List ℕ) → encode_all (xs ++ ys) ≡ encode_all xs ++ encode_all ys
unfolding encode_all
encode_append [] ys = refl
encode_append (x ∷ xs) ys = ap (λ (l : Bytes). encode x ++ l) (encode_append xs ys) ∙ sym (append_assoc (encode x) (encode_all xs) (encode_all ys))

-- The encoding of one is its own.
pub encode_one : (c : ℕ) → encode_all (c ∷ []) ≡ encode c
unfolding encode_all
encode_one c = append-nil (encode c)

-- Scalar values and others after them are scalar values.
pub scalars_append : (xs ys : List ℕ) → Scalars xs → Scalars ys → Scalars (xs ++ ys)
scalars_append [] ys p q = q
scalars_append (x ∷ xs) ys p q = (p.0, scalars_append xs ys p.1 q)

-- Two lists of scalar values with the same encoding are the same.
pub encode_injective : (cs ds : List ℕ) → Scalars cs → Scalars ds → encode_all cs ≡ encode_all ds → cs ≡ ds
encode_injective cs ds sc sd e = sym (chars_are (encode_all cs) cs 0 sc refl) ∙ chars_are (encode_all cs) ds 0 sd e

-- ---- legal bytes are split in one way

-- Two encodings that start the same bytes are one, and so is what follows them.
encode_head : (c d : ℕ) (x y : Bytes) → Scalar c → Scalar d → encode c ++ x ≡ encode d ++ y → (c ≡ d) × (x ≡ y)
encode_head c d x y sc sd e =
    let r : Char c (length (encode c)) ≡ Char d (length (encode d)) =
    sym (read_encode c sc x) ∙ ap (λ (l : Bytes). sequence_at l 0) e ∙ read_encode d sd y
    in
    let w : length (encode c) ≡ length (encode d) = cc in
    let same : c ≡ d = cc in
    (same, sym (drop-append_seam (encode c) x) ∙ ap (drop (length (encode c))) e ∙ drop_at (encode d) y (length (encode c)) (sym w))

-- cs begins with ds, and rest is the encoding of the others.
pub record Split (cs ds : List ℕ) (rest : Bytes) : Type 0 where
  pub others : List ℕ
  pub scalars : Scalars others
  pub all : cs ≡ ds ++ others
  pub bytes : rest ≡ encode_all others

-- Where the encoding of cs begins with that of ds, cs begins with ds.
pub split : (cs ds : List ℕ) (rest : Bytes) → Scalars cs → Scalars ds → encode_all ds ++ rest ≡ encode_all cs → Split cs ds rest
unfolding encode_all
split cs [] rest sc sd e = record { others = cs; scalars = sc; all = refl; bytes = e }
split [] (d ∷ ds) rest sc sd e =
    let n : length ((encode d ++ encode_all ds) ++ rest) ≡ 0 = ap length e in
    absurd (omega (arith, length-append (encode d ++ encode_all ds) rest, length-append (encode d) (encode_all ds), (encode_size d).0))
split (c ∷ cs) (d ∷ ds) rest sc sd e =
    let h = encode_head d c (encode_all ds ++ rest) (encode_all cs) sd.0 sc.0 (sym (append_assoc (encode d) (encode_all ds) rest) ∙ e) in
    let r = split cs ds rest sc.1 sd.1 h.1 in
    record { others = r.others; scalars = r.scalars; all = ap₂ (λ (a : ℕ) (l : List ℕ). a ∷ l) (sym h.0) r.all; bytes = r.bytes }
