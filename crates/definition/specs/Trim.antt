-- `maybe_trim_lines`: a comment's lines, cut by the least of its start column and the leading spaces of its lines.
use Rattle.std.specs.Prelude.{ℕ, ◌+◌, true, false, List, [], ◌∷◌, ◌++◌, map, ltb, eqb, drop}
use Rattle.definition.specs.Basics.{Bytes, ch}

-- one byte in front of some lines, which are never none
unfoldable pub onto_first : ℕ → List Bytes → List Bytes
onto_first b [] = (b ∷ []) ∷ []
onto_first b (l ∷ ls) = (b ∷ l) ∷ ls

-- `S.split ['\n']`: "cuts at every LF and keeps empty pieces"
unfoldable pub split_lines : Bytes → List Bytes
split_lines [] = [] ∷ []
split_lines (b ∷ l) = elim (eqb b (ch "\n")) [ true ↦ [] ∷ split_lines l | false ↦ onto_first b (split_lines l) ]

-- `S.concat "\n"`
unfoldable pub join_lines : List Bytes → Bytes
join_lines [] = []
join_lines (l ∷ []) = l
join_lines (l ∷ m ∷ ls) = l ++ (ch "\n" ∷ join_lines (m ∷ ls))

-- `aux` of `ensures_empty_prefix`: i spaces have been passed; the place of the first other byte if it is k at most, else k
unfoldable pub empty_prefix : ℕ → ℕ → Bytes → ℕ
empty_prefix k i [] = k
empty_prefix k i (b ∷ l) =
    elim (ltb k i) [
      | true ↦ k
      | false ↦ elim (eqb b (ch " ")) [ true ↦ empty_prefix k (i + 1) l | false ↦ i ]
    ]

-- `List.fold_left ensures_empty_prefix`
unfoldable pub trim_width : ℕ → List Bytes → ℕ
trim_width k [] = k
trim_width k (l ∷ ls) = trim_width (empty_prefix k 0 l) ls

-- `tail` of a line is what is left of it without so many bytes
unfoldable pub maybe_trim_lines : ℕ → Bytes → Bytes
maybe_trim_lines start_column comment =
    elim (eqb start_column 0) [
      | true ↦ comment
      | false ↦
          let lines = split_lines comment in
          let width = trim_width start_column lines in
          join_lines (map (drop width) lines)
    ]
