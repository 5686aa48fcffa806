-- An escape stands for fewer bytes than it has, and for a number that has bytes. Rests on the laws of escapes and of UTF-8.
use Prim.Native.Nat.{ℕ, ◌+◌, ◌-◌, ◌*◌, ◌≤◌, ◌<◌}
use mathlib.Core.Path.{◌≡◌, refl, sym, ap, subst, ◌∙◌}
use mathlib.Core.Bool.{true, false}
use mathlib.Core.List.{List, [], ◌∷◌}
use native.Mathlib.Numerals.{add-one}
use native.Mathlib.Omega.{arith}
use lib.Dec.{eqb}
use lib.ListN.{length, get_or}
use lib.Seq.{slice, slice-cons, slice_empty}
use borrow.Author.Tests.{eqb-true}
use Rattle.definition.specs.Basics.{Bytes, ch, codes, mem_cp}
use Rattle.definition.specs.Utf8.{encode}
use Rattle.definition.specs.Text.{byte_has, byte_is}
use Rattle.definition.specs.Chars.{is_hex}
use Rattle.definition.specs.Numbers.{digit_value, value_from}
use Rattle.definition.specs.Matchers.{match_escape}
use Rattle.definition.specs.Escapes.{code_at, hex_value, unescape}
use Rattle.lemmas.proofs.Cases.{by_if, both, never}
use Rattle.utf8.proofs.Reading.{byte_within}
use Rattle.utf8.proofs.Character.{by_size, encode_size}
use Rattle.number_value.proofs.Values.{digit_small}
use Rattle.laws_progress.proofs.Characters.{ascii_at}
use Rattle.laws_progress.proofs.Walks.{byte_passes}
use Rattle.laws_progress.proofs.Ends.{Ends, ends_nothing, ends_to, ends_only, ends_if}
use Rattle.laws_progress.proofs.Matches.{small_mem, small_hex}
use Rattle.escapes.specs.Asks.{escaped}
use Rattle.escapes.proofs.EscapeLaws.{code_of, unescape_slash}

-- the letters that make an escape by themselves
abbrev letters : List ℕ
letters = codes "\\\"'bfntrv0"

-- the escape from i up to e stands for a number that has bytes, fewer than the escape
pub record Shrinks (s : Bytes) (i e : ℕ) : Type 0 where
  pub small : unescape s i ≤ 0x10FFFF
  pub fewer : length (encode (unescape s i)) < e - i

-- ---- sizes in UTF-8

-- ASCII is one byte
one_byte : (c : ℕ) → c < 0x80 → length (encode c) ≤ 1
one_byte c h = by_size (λ (l : Bytes). length l ≤ 1) c (λ _. omega arith) (λ k _. absurd (omega arith)) (λ k _. absurd (omega arith)) (λ k. absurd (omega arith))

-- a number of 16 bits is at most three
three_bytes : (c : ℕ) → c < 0x10000 → length (encode c) ≤ 3
three_bytes c h = by_size (λ (l : Bytes). length l ≤ 3) c (λ _. omega arith) (λ _ _. omega arith) (λ _ _. omega arith) (λ k. absurd (omega arith))

-- ---- the value of two hexadecimal digits, and of four: each is worth at most 127, its byte being one of ASCII

-- two digits, after those of the value n
value_two : (n a b : ℕ) → a < 0x80 → b < 0x80 → value_from 16 n (a ∷ b ∷ []) ≤ 256 * n + 2159
unfolding value_from
value_two n a b h k = omega (arith, digit_small a (digit_value a) refl, digit_small b (digit_value b) refl)

-- four digits
value_four : (a b c d : ℕ) → a < 0x80 → b < 0x80 → c < 0x80 → d < 0x80 → value_from 16 0 (a ∷ b ∷ c ∷ d ∷ []) ≤ 554863
unfolding value_from
value_four a b c d h k l m =
    let t : value_from 16 0 (a ∷ b ∷ []) ≤ 256 * 0 + 2159 = value_two 0 a b h k in
    omega (arith, value_two (value_from 16 0 (a ∷ b ∷ [])) c d l m)

module _ (s : Bytes) (i : ℕ) where
  -- a hexadecimal digit
  digit : (k : ℕ) → byte_has is_hex s k ≡ true → (k < length s) × (get_or s k 0 < 0x80)
  digit k t =
      let h = byte_passes is_hex s k t in
      (h.0, small_hex _ h.1)

  -- two bytes, and what is after them
  next_two : (k e : ℕ) → k + 2 ≤ e → e ≤ length s → slice k e s ≡ get_or s k 0 ∷ get_or s (k + 1) 0 ∷ slice (k + 2) e s
  next_two k e h l =
      let q : k + 1 + 1 ≡ k + 2 = omega arith in
      one k (omega arith)
      ∙ ap (λ (m : Bytes). get_or s k 0 ∷ m) (one (k + 1) (omega arith) ∙ ap (λ (j : ℕ). get_or s (k + 1) 0 ∷ slice j e s) q)
    where
      -- one byte
      one : (j : ℕ) → j < e → slice j e s ≡ get_or s j 0 ∷ slice (j + 1) e s
      one j b = rw add-one (slice-cons j e s 0 b l)

  -- digits from k on
  hex_two : (k : ℕ) → byte_has is_hex s k ≡ true → byte_has is_hex s (k + 1) ≡ true → hex_value s k 2 ≤ 2159
  unfolding hex_value
  hex_two k t u =
      let l : slice k (k + 2) s ≡ get_or s k 0 ∷ get_or s (k + 1) 0 ∷ [] =
      next_two k (k + 2) (omega arith) (omega (arith, (digit (k + 1) u).0))
      ∙ ap (λ (m : Bytes). get_or s k 0 ∷ get_or s (k + 1) 0 ∷ m) (slice_empty (k + 2) s)
      in
      rw l (omega (arith, value_two 0 (get_or s k 0) (get_or s (k + 1) 0) (digit k t).1 (digit (k + 1) u).1))

  -- four digits from k on
  hex_four : (k : ℕ) → byte_has is_hex s k ≡ true → byte_has is_hex s (k + 1) ≡ true → byte_has is_hex s (k + 2) ≡ true
      → byte_has is_hex s (k + 2 + 1) ≡ true → hex_value s k 4 ≤ 554863
  unfolding hex_value
  hex_four k t u v w =
      let e : k + 2 + 2 ≡ k + 4 = omega arith in
      let n : k + 4 ≤ length s = omega (arith, (digit (k + 2 + 1) w).0) in
      let l : slice k (k + 4) s ≡ get_or s k 0 ∷ get_or s (k + 1) 0 ∷ get_or s (k + 2) 0 ∷ get_or s (k + 2 + 1) 0 ∷ [] =
      next_two k (k + 4) (omega arith) n
      ∙ ap (λ (m : Bytes). get_or s k 0 ∷ get_or s (k + 1) 0 ∷ m)
      (next_two (k + 2) (k + 4) (omega arith) n
      ∙ ap (λ (j : ℕ). get_or s (k + 2) 0 ∷ get_or s (k + 2 + 1) 0 ∷ slice j (k + 4) s) e
      ∙ ap (λ (m : Bytes). get_or s (k + 2) 0 ∷ get_or s (k + 2 + 1) 0 ∷ m) (slice_empty (k + 4) s))
      in
      rw l
      (value_four (get_or s k 0) (get_or s (k + 1) 0) (get_or s (k + 2) 0) (get_or s (k + 2 + 1) 0)
      (digit k t).1 (digit (k + 1) u).1 (digit (k + 2) v).1 (digit (k + 2 + 1) w).1)

  -- ---- what stands after a backslash

  module _ (slash : byte_is (ch "\\") s i ≡ true) where
    -- the byte there decides
    decides : i + 1 < length s → escaped s i (get_or s (i + 1) 0) ≡ unescape s i
    decides h =
        let b = byte_passes (λ x. eqb x 92) s i slash in
        unescape_slash s i (get_or s i 0) (byte_within s i b.0) (eqb-true (get_or s i 0) 92 b.1) (get_or s (i + 1) 0) (byte_within s (i + 1) h)

    -- a letter by itself is a character of ASCII
    letter_small : (x : ℕ) → mem_cp x letters ≡ true → code_at s (i + 1) ≡ x → escaped s i x < 0x80
    unfolding escaped mem_cp
    letter_small x m q =
        by_if P (eqb x (ch "0")) (λ _. omega arith) λ _.
        by_if P (eqb x (ch "b")) (λ _. omega arith) λ _.
        by_if P (eqb x (ch "t")) (λ _. omega arith) λ _.
        by_if P (eqb x (ch "n")) (λ _. omega arith) λ _.
        by_if P (eqb x (ch "v")) (λ _. omega arith) λ _.
        by_if P (eqb x (ch "f")) (λ _. omega arith) λ _.
        by_if P (eqb x (ch "r")) (λ _. omega arith) λ _.
        by_if P (eqb x (ch "u")) (λ t. never (other 117 refl (eqb-true x 117 t))) λ _.
        by_if P (eqb x (ch "x")) (λ t. never (other 120 refl (eqb-true x 120 t))) λ _.
        rw q (small_mem letters refl x m)
      where
        -- a character of ASCII
        P : ℕ → Type 0
        P n = n < 0x80

        -- a letter that is none of them
        other : (y : ℕ) → mem_cp y letters ≡ false → x ≡ y → false ≡ true
        other y n e = sym n ∙ ap (λ (z : ℕ). mem_cp z letters) (sym e) ∙ m

    -- such a letter
    letter_shrinks : byte_has (λ c. mem_cp c letters) s (i + 1) ≡ true → Shrinks s i (i + 2)
    letter_shrinks t =
        let b = byte_passes (λ c. mem_cp c letters) s (i + 1) t in
        let x = get_or s (i + 1) 0 in
        let k : code_at s (i + 1) ≡ x = code_of s (i + 1) (ascii_at s (i + 1) b.0 (small_mem letters refl x b.1)) in
        let c : unescape s i < 0x80 = subst (λ (n : ℕ). n < 0x80) (decides b.0) (letter_small x b.1 k) in
        record { small = omega arith; fewer = omega (arith, one_byte (unescape s i) c) }

    -- digits, after the letter that asks for them
    digits_are : (x n : ℕ) → byte_is x s (i + 1) ≡ true → escaped s i x ≡ n → unescape s i ≡ n
    digits_are x n t e =
        let b = byte_passes (λ y. eqb y x) s (i + 1) t in
        sym (decides b.0) ∙ ap (escaped s i) (eqb-true (get_or s (i + 1) 0) x b.1) ∙ e

    -- x and two digits
    two_shrink : byte_is (ch "x") s (i + 1) ≡ true → hex_value s (i + 2) 2 ≤ 2159 → Shrinks s i (i + 4)
    unfolding escaped
    two_shrink t h =
        let q = digits_are (ch "x") (hex_value s (i + 2) 2) t refl in
        record { small = omega (arith, q); fewer = omega (arith, three_bytes (unescape s i) (omega (arith, q))) }

    -- u and four digits
    four_shrink : byte_is (ch "u") s (i + 1) ≡ true → hex_value s (i + 2) 4 ≤ 554863 → Shrinks s i (i + 6)
    unfolding escaped
    four_shrink t h =
        let q = digits_are (ch "u") (hex_value s (i + 2) 4) t refl in
        record { small = omega (arith, q); fewer = omega (arith, (encode_size (unescape s i)).1) }

-- Every escape shrinks.
pub escape_shrinks : (s : Bytes) (i : ℕ) → Ends (Shrinks s i) (match_escape s i)
unfolding match_escape
escape_shrinks s i =
    let three : i + 3 ≡ i + 2 + 1 = omega arith in
    let four : i + 4 ≡ i + 2 + 2 = omega arith in
    let five : i + 5 ≡ i + 2 + 2 + 1 = omega arith in
    ends_only (byte_is (ch "\\") s i) λ slash.
    ends_if _ (λ t. ends_to (letter_shrinks s i slash t))
    (ends_if _ (λ t.
    let x = both _ _ t in
    let h = both _ _ x.1 in
    ends_to (two_shrink s i slash x.0 (hex_two s i (i + 2) h.0 (digit_at three h.1))))
    (ends_if _ (λ t.
    let u = both _ _ t in
    let a = both _ _ u.1 in
    let b = both _ _ a.1 in
    let c = both _ _ b.1 in
    ends_to (four_shrink s i slash u.0 (hex_four s i (i + 2) a.0 (digit_at three b.0) (digit_at four c.0) (digit_at five c.1)))) ends_nothing))
  where
    -- the same offset
    digit_at : {j k : ℕ} → j ≡ k → byte_has is_hex s j ≡ true → byte_has is_hex s k ≡ true
    digit_at e t = subst (λ (n : ℕ). byte_has is_hex s n ≡ true) e t
