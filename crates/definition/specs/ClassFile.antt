-- The class file of document 01, "FStarC.Parser.Unicode.fst": its layout, the class check, and the six tests that it gives.
-- Everything above reads these tests and no byte of the file.
use Rattle.std.specs.Prelude.{ℕ, zero, suc, ◌+◌, ◌*◌, Bool, true, false, ◌&&◌, ◌||◌, List, [], ◌∷◌, ltb, leb, eqb, length, get_or, drop}
use Rattle.definition.specs.Basics.{Bytes, between}

-- a range: its first and its last code point
abbrev pub Range : Type 0
Range = ℕ × ℕ

-- c is in one of the ranges
unfoldable pub in_ranges : List Range → ℕ → Bool
in_ranges [] c = false
in_ranges (r ∷ rs) c = elim (between r.0 r.1 c) [ true ↦ true | false ↦ in_ranges rs c ]

-- ---- the layout

-- the number that four bytes spell, the least first; missing bytes read as 0
unfoldable pub little_endian : Bytes → ℕ
little_endian l = get_or l 0 0 + get_or l 1 0 * 256 + get_or l 2 0 * 65536 + get_or l 3 0 * 16777216

-- how many classes a file has, and how long its header of pairs is
abbrev pub classes_in_file : ℕ
classes_in_file = 6

abbrev pub header_size : ℕ
header_size = 8 * classes_in_file

-- the pair of class k in the header: its count of ranges, and its offset
unfoldable pub class_count : Bytes → ℕ → ℕ
class_count f k = little_endian (drop (8 * k) f)

unfoldable pub class_offset : Bytes → ℕ → ℕ
class_offset f k = little_endian (drop (8 * k + 4) f)

-- the counts of the classes before k together
unfoldable pub counts_before : Bytes → ℕ → ℕ
counts_before f zero = 0
counts_before f (suc k) = counts_before f k + class_count f k

-- "A class's offset is 48 plus 8 times the sum of earlier counts"; past the last class, the length of the file
unfoldable pub class_start : Bytes → ℕ → ℕ
class_start f k = header_size + 8 * counts_before f k

-- n ranges from the front of l
unfoldable pub read_ranges : ℕ → Bytes → List Range
read_ranges zero l = []
read_ranges (suc n) l = (little_endian l, little_endian (drop 4 l)) ∷ read_ranges n (drop 8 l)

-- the ranges of class k
unfoldable pub ranges_of : Bytes → ℕ → List Range
ranges_of f k = read_ranges (class_count f k) (drop (class_start f k) f)

-- ---- the class check

-- refusal 3, by the file's length
unfoldable pub bad_class_length : ℕ → Bool
bad_class_length n = ltb n header_size || ltb 65536 n

-- the offsets of the first k classes are right
unfoldable pub offsets_right : Bytes → ℕ → Bool
offsets_right f zero = true
offsets_right f (suc k) = elim (eqb (class_offset f k) (class_start f k)) [ true ↦ offsets_right f k | false ↦ false ]

-- refusal 4 is for a file that is not laid out so
unfoldable pub laid_out : Bytes → Bool
laid_out f = offsets_right f classes_in_file && eqb (length f) (class_start f classes_in_file)

-- each range begins at n or later and above the one before, ends at or after its first code point, and at 1,114,111 at most
unfoldable pub ascending : ℕ → List Range → Bool
ascending n [] = true
ascending n (r ∷ rs) = elim (leb n r.0 && (leb r.0 r.1 && leb r.1 1114111)) [ true ↦ ascending (suc r.1) rs | false ↦ false ]

-- refusal 5 is for a file with a class among its first k whose ranges do not ascend; the first range of a class has none before it
unfoldable pub ranges_right : Bytes → ℕ → Bool
ranges_right f zero = true
ranges_right f (suc k) = elim (ascending 0 (ranges_of f k)) [ true ↦ ranges_right f k | false ↦ false ]

-- document 01, "Class check": a refusal number, or 0
unfoldable pub class_check : Bytes → ℕ
class_check f =
    elim (bad_class_length (length f)) [
      | true ↦ 3
      | false ↦ elim (laid_out f) [
        | false ↦ 4
        | true ↦ elim (ranges_right f classes_in_file) [ false ↦ 5 | true ↦ 0 ]
      ]
    ]

-- ---- the tests, the classes in the file's order

unfoldable pub is_lu : Bytes → ℕ → Bool
is_lu f c = in_ranges (ranges_of f 0) c

unfoldable pub is_lt : Bytes → ℕ → Bool
is_lt f c = in_ranges (ranges_of f 1) c

unfoldable pub is_lo : Bytes → ℕ → Bool
is_lo f c = in_ranges (ranges_of f 2) c

unfoldable pub is_lm : Bytes → ℕ → Bool
is_lm f c = in_ranges (ranges_of f 3) c

unfoldable pub is_zs : Bytes → ℕ → Bool
is_zs f c = in_ranges (ranges_of f 4) c

unfoldable pub is_sm : Bytes → ℕ → Bool
is_sm f c = in_ranges (ranges_of f 5) c
