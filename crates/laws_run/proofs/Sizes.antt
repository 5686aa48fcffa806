-- How long the bytes are that payloads are made of: parts of the text, texts of tables, cleaned numbers, numbers in decimal, and trimmed
-- comments. Rests on the laws of decimal numbers (crate `number_value`).
use Rattle.std.specs.Prelude.{Option, Some}
use Prim.Native.Nat.{ℕ, zero, suc, ◌+◌, ◌-◌, ◌*◌, ◌/◌, ◌%◌, ◌≤◌, ◌<◌}
use mathlib.Core.Path.{◌≡◌, refl, ap, subst}
use mathlib.Core.Bool.{Bool, true, ◌&&◌}
use mathlib.Core.List.{List, [], ◌∷◌, map}
use native.Mathlib.Omega.{arith}
use lib.Dec.{leb, eqb}
use lib.ListN.{length, drop, length-append, length-drop, length-take}
use borrow.Author.Tests.{leb-true}
use Rattle.definition.specs.Basics.{Bytes, ch, same}
use Rattle.definition.specs.Utf8.{encode_all}
use Rattle.definition.specs.Text.{lexeme}
use Rattle.definition.specs.Tables.{Entry, cps, find, entry}
use Rattle.definition.specs.Numbers.{strips, strip_left, strip_if_last, strip_right, clean_number, show}
use Rattle.definition.specs.Trim.{onto_first, split_lines, join_lines, trim_width, maybe_trim_lines}
use Rattle.lemmas.proofs.Cases.{by_test, by_if, by_order, both}
use Rattle.number_value.proofs.Digits.{show_last, show_more}

-- ---- parts of the text

-- a part is never longer than from its start to its end
pub part_size : (s : Bytes) (i j : ℕ) → length (lexeme s i j) ≤ j - i
part_size s i j = simp (length-drop, length-take) (omega arith)

-- nor past the text's end
pub part_within : (s : Bytes) (i j : ℕ) → length (lexeme s i j) ≤ length s - i
part_within s i j = simp (length-drop, length-take) (omega arith)

-- ---- texts of tables

-- no text of a table is longer than 100 bytes
abbrev pub texts_small : List Entry → Bool
texts_small [] = true
texts_small (e ∷ es) = leb (length (cps e.text)) 100 && texts_small es

-- the text of an entry that is found
pub find_small : (id : Bytes) (table : List Entry) (y : Entry) → texts_small table ≡ true → find id table ≡ Some y → length (cps y.text) ≤ 100
unfolding find
find_small id [] y t q = absurd (let z : ◌≡◌ {A = ℕ} 0 1 = cc in omega arith)
find_small id (e ∷ es) y t q =
    let b = both (leb (length (cps e.text)) 100) (texts_small es) t in
    by_test (λ (x : Option Entry). x ≡ Some y → length (cps y.text) ≤ 100) (same (cps e.word) id)
    (λ _ r. let z : e ≡ y = cc in subst (λ (x : Entry). length (cps x.text) ≤ 100) z (leb-true _ _ b.0))
    (λ _. find_small id es y b.1) q

-- the text of an entry by its number
pub entry_small : (table : List Entry) (w : ℕ) → texts_small table ≡ true → length (cps (entry table w).text) ≤ 100
unfolding cps encode_all
entry_small [] zero t = omega arith
entry_small [] (suc w) t = omega arith
entry_small (e ∷ es) zero t = leb-true _ _ (both (leb (length (cps e.text)) 100) (texts_small es) t).0
entry_small (e ∷ es) (suc w) t = entry_small es w (both (leb (length (cps e.text)) 100) (texts_small es) t).1

-- ---- numbers

-- `clean_number` only takes off
left_size : (l : Bytes) → length (strip_left l) ≤ length l
unfolding strip_left
left_size [] = omega arith
left_size (b ∷ l) = by_test (λ (m : Bytes). length m ≤ suc (length l)) (strips b) (λ _. omega (arith, left_size l)) (λ _. omega arith)

-- a byte in front of the rest
strip_if_last_size : (b : ℕ) (l : Bytes) → length (strip_if_last b l) ≤ suc (length l)
unfolding strip_if_last
strip_if_last_size b [] = by_if (λ (m : Bytes). length m ≤ 1) (strips b) (λ _. omega arith) (λ _. omega arith)
strip_if_last_size b (x ∷ l) = omega arith

-- from the right
right_size : (l : Bytes) → length (strip_right l) ≤ length l
unfolding strip_right
right_size [] = omega arith
right_size (b ∷ l) = omega (arith, strip_if_last_size b (strip_right l), right_size l)

-- both
pub clean_size : (l : Bytes) → length (clean_number l) ≤ length l
unfolding clean_number
clean_size l = omega (arith, right_size (strip_left l), left_size l)

-- 1 with k zeros
abbrev tens : ℕ → ℕ
tens zero = 1
tens (suc k) = 10 * tens k

-- a number below that has at most k digits
digits : (k n : ℕ) → n < tens (suc k) → length (show n) ≤ suc k
digits zero n h = omega (arith, ap length (show_last n h))
digits (suc k) n h =
    by_order n 10
    (λ l. omega (arith, ap length (show_last n l)))
    (λ l. let d : n / 10 < tens (suc k) = omega arith in
    omega (arith, digits k (n / 10) d, ap length (show_more n l), length-append (show (n / 10)) ((48 + n % 10) ∷ [])))

-- a line's number
pub line_size : (n : ℕ) → n < 10000000 → length (show n) ≤ 7
line_size n h = digits 6 n h

-- ---- comments: with a byte for each line's end, the lines of a text are as long as the text and one byte

-- of some lines
abbrev lines_size : List Bytes → ℕ
lines_size [] = 0
lines_size (l ∷ ls) = suc (length l) + lines_size ls

-- a byte more on the first line
onto_size : (b n : ℕ) (ls : List Bytes) → lines_size ls ≡ suc n → lines_size (onto_first b ls) ≡ suc (suc n)
unfolding onto_first
onto_size b n [] q = absurd (omega arith)
onto_size b n (l ∷ ls) q = omega arith

-- splitting
split_size : (l : Bytes) → lines_size (split_lines l) ≡ suc (length l)
unfolding split_lines
split_size [] = refl
split_size (b ∷ l) =
    by_test (λ (ls : List Bytes). lines_size ls ≡ suc (suc (length l))) (eqb b (ch "\n"))
    (λ _. omega (arith, split_size l)) (λ _. onto_size b (length l) (split_lines l) (split_size l))

-- cutting each line
cut_size : (w : ℕ) (ls : List Bytes) → lines_size (map (drop w) ls) ≤ lines_size ls
cut_size w [] = omega arith
cut_size w (l ∷ ls) = omega (arith, length-drop w l, cut_size w ls)

-- joining
join_size : (ls : List Bytes) → length (join_lines ls) ≤ lines_size ls - 1
unfolding join_lines
join_size [] = omega arith
join_size (l ∷ []) = omega arith
join_size (l ∷ m ∷ ls) = omega (arith, length-append l (ch "\n" ∷ join_lines (m ∷ ls)), join_size (m ∷ ls))

-- trimming never lengthens
pub trim_size : (column : ℕ) (l : Bytes) → length (maybe_trim_lines column l) ≤ length l
unfolding maybe_trim_lines
trim_size column l =
    by_test (λ (m : Bytes). length m ≤ length l) (eqb column 0) (λ _. omega arith)
    (λ _.
    let ls = split_lines l in
    let w = trim_width column ls in
    omega (arith, join_size (map (drop w) ls), cut_size w ls, split_size l))
