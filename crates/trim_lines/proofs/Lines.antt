-- The bytes that stay are the trimmed lines joined. Rests on the definition of `trimmed`, and on the laws of the bytes that stay.
use Prim.Native.Nat.{ℕ, zero, suc}
use mathlib.Core.Path.{◌≡◌, refl, sym, ap, ap₂, ◌∙◌}
use mathlib.Core.Bool.{true, false}
use mathlib.Core.List.{List, [], ◌∷◌, map}
use native.Mathlib.Omega.{arith}
use lib.Dec.{eqb}
use lib.ListN.{length, drop}
use lib.Seq.{drop-nil}
use borrow.Author.Tests.{eqb-true}
use Rattle.definition.specs.Basics.{Bytes, ch}
use Rattle.definition.specs.Trim.{onto_first, split_lines, join_lines}
use Rattle.lemmas.proofs.Cases.{by_test}
use Rattle.reader.specs.Described.{trimmed}
use Rattle.trim_lines.specs.Trimming.{kept}
use Rattle.trim_lines.proofs.Kept.{kept_newline, kept_less, kept_more}

-- ---- lines

-- there is a first line
record Some (ls : List Bytes) : Type 0 where
  line : Bytes
  others : List Bytes
  is : ls ≡ line ∷ others

some_onto : (b : ℕ) (ls : List Bytes) → Some (onto_first b ls)
unfolding onto_first
some_onto b [] = record { line = b ∷ []; others = []; is = refl }
some_onto b (l ∷ ls) = record { line = b ∷ l; others = ls; is = refl }

-- Any bytes have a first line.
some_line : (l : Bytes) → Some (split_lines l)
unfolding split_lines
some_line [] = record { line = []; others = []; is = refl }
some_line (b ∷ l) = by_test Some (eqb b (ch "\n")) (λ e. record { line = []; others = split_lines l; is = refl }) (λ e. some_onto b (split_lines l))

some_map : (f : Bytes → Bytes) {ls : List Bytes} → Some ls → Some (map f ls)
some_map f h = record { line = f h.line; others = map f h.others; is = ap (map f) h.is }

-- the first line without its first `left` bytes, and the others without their first `width`
abbrev cut : ℕ → ℕ → List Bytes → List Bytes
cut width left [] = []
cut width left (l ∷ ls) = drop left l ∷ map (drop width) ls

cut_all : (width : ℕ) (ls : List Bytes) → cut width width ls ≡ map (drop width) ls
cut_all width [] = refl
cut_all width (l ∷ ls) = refl

-- A byte in front of the first line stands in front of the joined lines.
join_front : (b : ℕ) (l : Bytes) (ls : List Bytes) → join_lines ((b ∷ l) ∷ ls) ≡ b ∷ join_lines (l ∷ ls)
unfolding join_lines
join_front b l [] = refl
join_front b l (m ∷ ls) = refl

-- An empty line in front of others is a line end.
join_empty : (ls : List Bytes) → Some ls → join_lines ([] ∷ ls) ≡ ch "\n" ∷ join_lines ls
unfolding join_lines
join_empty [] h = let z = ap length h.is in absurd (omega arith)
join_empty (l ∷ ls) h = refl

-- ---- joined

module _ (width : ℕ) where
  -- A byte in front of a line that loses nothing stands in front of all.
  onto_kept : (b : ℕ) (ls : List Bytes) → Some ls → join_lines (cut width 0 (onto_first b ls)) ≡ b ∷ join_lines (cut width 0 ls)
  unfolding onto_first
  onto_kept b [] h = let z = ap length h.is in absurd (omega arith)
  onto_kept b (l ∷ ls) h = join_front b l (map (drop width) ls)

  -- One in front of a line that loses some is the first lost.
  onto_lost : (left b : ℕ) (ls : List Bytes) → Some ls → join_lines (cut width (suc left) (onto_first b ls)) ≡ join_lines (cut width left ls)
  unfolding onto_first
  onto_lost left b [] h = let z = ap length h.is in absurd (omega arith)
  onto_lost left b (l ∷ ls) h = refl

  -- after a line end
  ends : (left b : ℕ) (l : Bytes) → eqb b (ch "\n") ≡ true → join_lines (cut width width (split_lines l)) ≡ kept width width l
      → join_lines (cut width left ([] ∷ split_lines l)) ≡ kept width left (b ∷ l)
  ends left b l e ih =
      let q : b ≡ ch "\n" = eqb-true b (ch "\n") e in
      let c = cut_all width (split_lines l) in
      ap (λ (m : Bytes). join_lines (m ∷ map (drop width) (split_lines l))) (drop-nil left)
      ∙ join_empty (map (drop width) (split_lines l)) (some_map (drop width) (some_line l))
      ∙ ap₂ (λ (x : ℕ) (m : Bytes). x ∷ m) (sym q) (ap join_lines (sym c) ∙ ih)
      ∙ sym (kept_newline width left b l e)

  -- after any other byte
  goes_on : (left b : ℕ) (l : Bytes) → eqb b (ch "\n") ≡ false → ((d : ℕ) → join_lines (cut width d (split_lines l)) ≡ kept width d l)
      → join_lines (cut width left (onto_first b (split_lines l))) ≡ kept width left (b ∷ l)
  goes_on zero b l e ih = onto_kept b (split_lines l) (some_line l) ∙ ap (λ (m : Bytes). b ∷ m) (ih 0) ∙ sym (kept_more width b l e)
  goes_on (suc left) b l e ih = onto_lost left b (split_lines l) (some_line l) ∙ ih left ∙ sym (kept_less width left b l e)

  -- The joined lines, with the first one cut, are the bytes that stay.
  lines_kept : (left : ℕ) (l : Bytes) → join_lines (cut width left (split_lines l)) ≡ kept width left l
  unfolding kept split_lines join_lines
  lines_kept left [] = drop-nil left
  lines_kept left (b ∷ l) =
      by_test (λ ls. join_lines (cut width left ls) ≡ kept width left (b ∷ l)) (eqb b (ch "\n"))
      (λ e. ends left b l e (lines_kept width l))
      (λ e. goes_on left b l e (λ d. lines_kept d l))

  -- The trimmed lines are the bytes that stay.
  pub kept_is : (l : Bytes) → trimmed width l ≡ kept width width l
  kept_is l = ap join_lines (sym (cut_all width (split_lines l))) ∙ lines_kept width l
