-- Skips: the offset so many characters on from another, and the count over them by any weight. Rests on the laws of UTF-8 (crate `utf8`)
-- and on the laws of the count.
use Prim.Native.Nat.{ℕ, zero, suc, ◌+◌, ◌-◌, ◌≤◌, ◌<◌}
use native.Mathlib.Nat.{zero-add, suc-add}
use native.Mathlib.Omega.{arith}
use mathlib.Core.Path.{◌≡◌, refl, sym, ap, ◌∙◌}
use lib.ListN.{length}
use borrow.Author.Tests.{lt-ltb, le-ltb}
use Rattle.definition.specs.Basics.{Bytes}
use Rattle.definition.specs.Utf8.{encode, Boundary, sequence_at}
use Rattle.definition.specs.Text.{with_char, after}
use Rattle.definition.specs.Position.{Weight, one_each, count_chars}
use Rattle.definition.specs.Utf16.{utf16, skip_chars}
use Rattle.definition.specs.declared.Sequence.{Sequence}
use Rattle.definition.specs.declared.Sequence.TheVariants.{Char}
use Rattle.lemmas.proofs.Cases.{by_order}
use Rattle.utf8.proofs.Reading.{NoChar, with_none}
use Rattle.utf8.proofs.Character.{by_size, char_read, read_char, char_within}
use Rattle.utf8.proofs.Runs.{by_char, by_chars}
use Rattle.utf8.proofs.Boundaries.{boundary_next, char_before}
use Rattle.position.proofs.Counting.{count_split, count_none}
use Rattle.position.proofs.Weights.{char_counts}

module _ (s : Bytes) where
  -- ---- the offset after a character

  -- past the character that stands there
  pub after_char : (i : ℕ) {c k : ℕ} → sequence_at s i ≡ Char c k → after s i ≡ i + k
  unfolding after
  after_char i e = ap (λ (t : Sequence). with_char t i (λ c j. j) i) e

  -- where none stands, the same offset
  pub after_none : (i : ℕ) → NoChar (sequence_at s i) → after s i ≡ i
  unfolding after
  after_none i h = with_none (sequence_at s i) i (λ c j. j) i h

  -- ---- skips

  -- a skip goes on from where the one before it ends
  pub skip_more : (i n m : ℕ) → skip_chars s i (n + m) ≡ skip_chars s (skip_chars s i n) m
  unfolding skip_chars
  skip_more i zero m = rw zero-add
  skip_more i (suc n) m = rw suc-add (skip_more (after s i) n m)

  -- a character is skipped first
  pub skip_char : (i n : ℕ) {c k : ℕ} → sequence_at s i ≡ Char c k → skip_chars s i (suc n) ≡ skip_chars s (i + k) n
  unfolding skip_chars
  skip_char i n e = ap (λ (j : ℕ). skip_chars s j n) (after_char i e)

  -- where none stands nothing is skipped
  pub skip_none : (i n : ℕ) → NoChar (sequence_at s i) → skip_chars s i n ≡ i
  unfolding skip_chars
  skip_none i zero h = refl
  skip_none i (suc n) h = ap (λ (j : ℕ). skip_chars s j n) (after_none i h) ∙ skip_none i n h

  -- What holds of each offset and itself, and of a character from what follows it, holds of each offset and the end of a skip.
  by_skip : (P : ℕ → ℕ → Type 0)
      → ((i : ℕ) → P i i)
      → ((i c k e : ℕ) → sequence_at s i ≡ Char c k → P (i + k) e → P i e)
      → (i n : ℕ) → P i (skip_chars s i n)
  unfolding skip_chars
  by_skip P here on i zero = here i
  by_skip P here on i (suc n) =
      by_char s i
      (λ c k e. rw (skip_char i n e) (on i c k (skip_chars s (i + k) n) e (by_skip P here on (i + k) n)))
      (λ h. rw (skip_none i (suc n) h) (here i))

  -- a skip goes forward
  pub skip_forward : (i n : ℕ) → i ≤ skip_chars s i n
  skip_forward = by_skip (λ i e. i ≤ e) (λ i. omega arith) (λ i c k e q ih. omega arith)

  -- it stays within the text
  pub skip_within : (i n : ℕ) → i ≤ length s → skip_chars s i n ≤ length s
  skip_within = by_skip (λ i e. i ≤ length s → e ≤ length s) (λ i h. h) (λ i c k e q ih h. ih (char_within (char_read q)).1)

  -- ---- the count over a skip

  module _ (w : Weight) where
    -- a character's bytes count its weight
    pub count_char : (i : ℕ) {c k : ℕ} → sequence_at s i ≡ Char c k → count_chars w s i k ≡ w c
    count_char i {c} {k} e = char_counts w s i c k (char_read e)

    -- so a count that starts at a character is its weight and the count after it
    count_on : (i e : ℕ) {c k : ℕ} → sequence_at s i ≡ Char c k → i + k ≤ e
        → count_chars w s i (e - i) ≡ w c + count_chars w s (i + k) (e - (i + k))
    count_on i e {c} {k} q h =
        let n : e - i ≡ k + (e - (i + k)) = omega arith in
        omega (arith, ap (count_chars w s i) n, count_split w s i k (e - (i + k)), count_char i q)

    -- a weight that is at most a character's bytes counts at most the bytes that are skipped
    pub count_skip_small : ((c : ℕ) → w c ≤ length (encode c)) → (i n : ℕ) → count_chars w s i (skip_chars s i n - i) ≤ skip_chars s i n - i
    count_skip_small light i n = (by_skip (λ i e. (i ≤ e) × (count_chars w s i (e - i) ≤ e - i)) here on i n).1
      where
        here : (i : ℕ) → (i ≤ i) × (count_chars w s i (i - i) ≤ i - i)
        here i = (omega arith, omega (arith, count_none w s i))

        on : (i c k e : ℕ) → sequence_at s i ≡ Char c k → (i + k ≤ e) × (count_chars w s (i + k) (e - (i + k)) ≤ e - (i + k))
            → (i ≤ e) × (count_chars w s i (e - i) ≤ e - i)
        on i c k e q ih = omega (arith, count_on i e q ih.0, light c, (char_read q).width)

  -- ---- where so many characters are skipped as the count of characters says, the skip ends where the count does

  -- at an offset itself
  back_here : (i : ℕ) → skip_chars s i (count_chars one_each s i (i - i)) ≡ i
  unfolding skip_chars
  back_here i = ap (skip_chars s i) (count_none one_each s i)

  -- and before a character
  back_on : (i e : ℕ) {c k : ℕ} → sequence_at s i ≡ Char c k → i + k ≤ e
      → skip_chars s (i + k) (count_chars one_each s (i + k) (e - (i + k))) ≡ e → skip_chars s i (count_chars one_each s i (e - i)) ≡ e
  back_on i e {c} {k} q h ih =
      let n : count_chars one_each s i (e - i) ≡ suc (count_chars one_each s (i + k) (e - (i + k))) = omega (arith, count_on one_each i e q h) in
      ap (skip_chars s i) n ∙ skip_char i (count_chars one_each s (i + k) (e - (i + k))) q ∙ ih

  -- so between any two boundaries
  pub skip_back : {i j : ℕ} → Boundary s i → Boundary s j → i ≤ j → skip_chars s i (count_chars one_each s i (j - i)) ≡ j
  skip_back {i} {j} b d = by_chars s P none some i b
    where
      P : ℕ → Type 0
      P i = Boundary s i → i ≤ j → skip_chars s i (count_chars one_each s i (j - i)) ≡ j

      at_end : (i : ℕ) → i ≡ j → skip_chars s i (count_chars one_each s i (j - i)) ≡ j
      at_end i e = rw e (back_here j)

      none : (i : ℕ) → NoChar (sequence_at s i) → P i
      none i n b h = by_order i j (λ l. absurd (rw (read_char (char_before b d l).stands) at n)) (λ l. at_end i (omega arith))

      some : (i c k : ℕ) → sequence_at s i ≡ Char c k → P (i + k) → P i
      some i c k q ih b h = by_order i j on (λ l. at_end i (omega arith))
        where
          on : i < j → skip_chars s i (count_chars one_each s i (j - i)) ≡ j
          on l =
              let t = char_before b d l in
              let same : Char t.code t.width ≡ Char c k = sym (read_char t.stands) ∙ q in
              let width : t.width ≡ k = cc in
              let ends : i + k ≤ j = omega (arith, t.ends) in
              back_on i j q ends (ih (boundary_next b (char_read q)) ends)

-- ---- UTF-16 units

-- a character up to U+FFFF is one
pub one_unit : (c : ℕ) → c ≤ 0xFFFF → utf16 c ≡ 1
unfolding utf16
one_unit c h = rw (le-ltb 0xFFFF c h, utf16)

-- one above it is two
pub two_units : (c : ℕ) → 0xFFFF < c → utf16 c ≡ 2
unfolding utf16
two_units c h = rw (lt-ltb 0xFFFF c h, utf16)

-- so a character's units are at most its bytes: one above U+FFFF has four
pub utf16_light : (c : ℕ) → utf16 c ≤ length (encode c)
utf16_light c =
    by_size (λ l. utf16 c ≤ length l) c
    (λ h. omega (arith, one_unit c (omega arith)))
    (λ h k. omega (arith, one_unit c (omega arith)))
    (λ h k. omega (arith, one_unit c (omega arith)))
    (λ h. omega (arith, two_units c (omega arith)))
