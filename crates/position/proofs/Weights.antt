-- Columns count characters, by any weight: between two boundaries of a legal text the count of the bytes is the sum of the weights
-- of the characters. Rests on the laws of UTF-8 (crate `utf8`) and on the law of the count that it is cut at any place.
use Prim.Native.Nat.{ℕ, zero, suc, ◌+◌, ◌-◌, ◌≤◌, ◌<◌}
use native.Mathlib.Nat.{add-zero, zero-add}
use native.Mathlib.Omega.{arith}
use mathlib.Core.Path.{◌≡◌, refl, sym, ap, ap₂, ◌∙◌}
use mathlib.Core.Bool.{true}
use mathlib.Core.List.{List, [], ◌∷◌, ◌++◌, append_assoc}
use lib.ListN.{length, get_or, drop, length-append}
use lib.Seq.{length-slice}
use Rattle.definition.specs.Basics.{Bytes}
use Rattle.definition.specs.Utf8.{encode, Scalars, encode_all, Boundary}
use Rattle.definition.specs.Position.{Weight, one_each, is_continuation, weight_at, count_chars, col_by, col_of}
use Rattle.definition.specs.declared.State.{State}
use Rattle.lemmas.proofs.Lists.{slice_then_drop}
use Rattle.utf8.specs.Chars.{CharAt}
use Rattle.utf8.proofs.Character.{read_at, char_read, read_char, encode_size}
use Rattle.utf8.proofs.Runs.{drop_next}
use Rattle.utf8.proofs.Boundaries.{char_starts, char_continues}
use Rattle.utf8.proofs.Laws.{between_is_legal}
use Rattle.position.specs.Columns.{sum_of}
use Rattle.position.proofs.Counting.{count_split}

-- bytes that only continue characters count nothing
tails_count_nothing : (w : Weight) (s : Bytes) (i n : ℕ) → ((k : ℕ) → i ≤ k → k < i + n → is_continuation (get_or s k 0) ≡ true) → count_chars w s i n ≡ 0
unfolding count_chars weight_at
tails_count_nothing w s i zero h = refl
tails_count_nothing w s i (suc n) h =
    rw (h i (omega arith) (omega arith), weight_at, zero-add) (tails_count_nothing w s (suc i) n (λ k a b. h k (omega arith) (omega arith)))

-- the bytes of a character count its weight
pub char_counts : (w : Weight) (s : Bytes) (i c n : ℕ) → CharAt s i c n → count_chars w s i n ≡ w c
unfolding count_chars weight_at
char_counts w s i c n a = go n refl (encode_size c).0 a.width
  where
    first : weight_at w s i ≡ w c
    first = rw (char_starts a, read_char a, weight_at)

    go : (m : ℕ) → n ≡ m → 1 ≤ length (encode c) → n ≡ length (encode c) → count_chars w s i m ≡ w c
    go zero e h k = absurd (omega arith)
    go (suc m) e h k =
        let z : count_chars w s (suc i) m ≡ 0 = tails_count_nothing w s (suc i) m (λ j p q. char_continues a j (omega arith) (omega arith)) in
        rw (z, first) (add-zero (w c))

-- the bytes of some characters count their weights
pub chars_count : (w : Weight) (s : Bytes) (cs : List ℕ) (i : ℕ) (rest : Bytes) → Scalars cs → drop i s ≡ encode_all cs ++ rest
    → count_chars w s i (length (encode_all cs)) ≡ sum_of w cs
unfolding encode_all sum_of count_chars
chars_count w s [] i rest sc e = refl
chars_count w s (c ∷ cs) i rest sc e =
    let q : drop i s ≡ encode c ++ (encode_all cs ++ rest) = e ∙ append_assoc (encode c) (encode_all cs) rest in
    let a : CharAt s i c (length (encode c)) = char_read (read_at s i c (encode_all cs ++ rest) sc.0 q) in
    ap (count_chars w s i) (length-append (encode c) (encode_all cs))
    ∙ count_split w s i (length (encode c)) (length (encode_all cs))
    ∙ ap₂ (λ (x y : ℕ). x + y) (char_counts w s i c (length (encode c)) a)
    (chars_count w s cs (i + length (encode c)) rest sc.1 (drop_next s i c (encode_all cs ++ rest) q))

module _ (w : Weight) {s : Bytes} where
  -- between two boundaries the count is the sum over the characters there
  pub count_between : {i j : ℕ} (b : Boundary s i) (d : Boundary s j) (h : i ≤ j) → count_chars w s i (j - i) ≡ sum_of w (between_is_legal b d h).chars
  count_between {i} {j} b d h =
      let L = between_is_legal b d h in
      let n : length (encode_all L.chars) ≡ j - i = ap length (sym L.bytes) ∙ length-slice i j s d.within in
      let e : drop i s ≡ encode_all L.chars ++ drop j s = sym (slice_then_drop i j s h d.within) ∙ ap (λ (l : Bytes). l ++ drop j s) L.bytes in
      ap (count_chars w s i) (sym n) ∙ chars_count w s L.chars i (drop j s) L.scalars e

  -- the column of a boundary is the line start's and the weights of the characters since
  pub column_sum : (st : State) {i : ℕ} (b : Boundary s st.bol) (d : Boundary s i) (h : st.bol ≤ i) → col_by w s st i ≡ st.column + sum_of w (between_is_legal b d h).chars
  unfolding col_by
  column_sum st b d h = ap (λ (n : ℕ). st.column + n) (count_between b d h)

-- where each character counts 1, the sum is how many they are
pub each_one : (cs : List ℕ) → sum_of one_each cs ≡ length cs
unfolding sum_of
each_one [] = refl
each_one (c ∷ cs) = omega (arith, each_one cs)

-- The column of a boundary of a legal text is the line start's column plus the number of characters since.
pub column_count : {s : Bytes} (st : State) {i : ℕ} (b : Boundary s st.bol) (d : Boundary s i) (h : st.bol ≤ i)
    → col_of s st i ≡ st.column + length (between_is_legal b d h).chars
column_count st b d h = column_sum one_each st b d h ∙ ap (λ (n : ℕ). st.column + n) (each_one (between_is_legal b d h).chars)
