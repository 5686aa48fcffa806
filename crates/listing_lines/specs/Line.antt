-- Document 01, "The listing program": "A line is T or C, kind name or `-`, words 2 to 5, 8, 9, 7; last END and the count, or REFUSED and the
-- number." The words of a line are separated by single blanks, and a line feed ends it.
use Rattle.std.specs.Prelude.{ℕ, zero, suc, List, [], ◌∷◌, ◌++◌, map, eqb, get_or, take, drop, if◌then◌else◌}
use Rattle.definition.specs.Basics.{Bytes, ch}
use Rattle.definition.specs.Kinds.{kind_names}
use Rattle.definition.specs.Tables.{cps}
use Rattle.definition.specs.Numbers.{show}
use Rattle.definition.specs.Item.{record_size}

-- word 0 as a letter: "1 token, 2 comment"
abbrev pub letter : ℕ → ℕ
letter sort = if eqb sort 2 then ch "C" else ch "T"

-- the names by kind: `-` at 0, a comment's, and the kinds' from 1
unfoldable pub names : List Bytes
names = cps "-" ∷ map cps kind_names

-- word 1 as a name
unfoldable pub name_of : ℕ → Bytes
name_of kind = get_or names kind (cps "-")

-- the words that a line shows as numbers, in its order
abbrev pub shown : List ℕ
shown = 2 ∷ 3 ∷ 4 ∷ 5 ∷ 8 ∷ 9 ∷ 7 ∷ []

-- numbers in decimal, each after a blank
unfoldable pub numbers : List ℕ → Bytes
numbers [] = []
numbers (n ∷ ns) = (ch " " ∷ show n) ++ numbers ns

-- the letter and the name
abbrev pub head : List ℕ → Bytes
head ws = letter (get_or ws 0 0) ∷ ch " " ∷ name_of (get_or ws 1 0)

-- the line of an item, by the eighteen numbers of its record
unfoldable pub line : List ℕ → Bytes
line ws = head ws ++ (numbers (map (λ i. get_or ws i 0) shown) ++ (ch "\n" ∷ []))

-- the lines of the first n records, one after the other
unfoldable pub lines : ℕ → List ℕ → Bytes
lines zero rs = []
lines (suc n) rs = line (take record_size rs) ++ lines n (drop record_size rs)
