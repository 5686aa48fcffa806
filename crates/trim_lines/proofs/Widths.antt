-- The width byte by byte is the definition's width over lines. Rests on the definition of `trim_width`.
use Prim.Native.Nat.{ℕ, ◌+◌, ◌≤◌, ◌<◌}
use mathlib.Core.Path.{◌≡◌, refl, sym, ap, ◌∙◌}
use mathlib.Core.Bool.{true, false}
use mathlib.Core.List.{List, [], ◌∷◌}
use native.Mathlib.Omega.{arith}
use lib.Dec.{eqb}
use lib.ListN.{length, get_or}
use Rattle.definition.specs.Basics.{Bytes, ch}
use Rattle.definition.specs.Trim.{onto_first, split_lines, empty_prefix, trim_width}
use Rattle.lemmas.proofs.Cases.{tests, by_order, by_outcome, by_test}
use Rattle.trim_lines.specs.Trimming.{narrow, width_of, narrowest}
use Rattle.trim_lines.specs.declared.Margin.{Margin}
use Rattle.trim_lines.proofs.Pieces.{coming, coming_cons, coming_past}

-- ---- one byte more, an equation for each case

module _ (k i b : ℕ) (l : Bytes) where
  -- A space at the start of a line is counted.
  prefix_space : i ≤ k → eqb b (ch " ") ≡ true → empty_prefix k i (b ∷ l) ≡ empty_prefix k (i + 1) l
  unfolding empty_prefix
  prefix_space h q = simp (tests, q, empty_prefix)

  -- Any other byte there is the line's.
  prefix_other : i ≤ k → eqb b (ch " ") ≡ false → empty_prefix k i (b ∷ l) ≡ i
  unfolding empty_prefix
  prefix_other h q = simp (tests, q, empty_prefix)

-- Where more spaces have been passed than the width, the line leaves the width.
prefix_decided : (k i : ℕ) (l : Bytes) → k < i → empty_prefix k i l ≡ k
unfolding empty_prefix
prefix_decided k i [] h = refl
prefix_decided k i (b ∷ l) h = simp (tests, empty_prefix)

module _ (m : Margin) (b : ℕ) where
  -- A line end begins a line.
  pub narrow_newline : eqb b (ch "\n") ≡ true → narrow m b ≡ record { width = m.width; spaces = 0 }
  unfolding narrow
  narrow_newline e = simp (e, narrow)

  module _ (e : eqb b (ch "\n") ≡ false) where
    -- In a line that is decided nothing changes.
    pub narrow_decided : m.width < m.spaces → narrow m b ≡ m
    unfolding narrow
    narrow_decided h = simp (e, tests, narrow)

    -- A space is counted.
    pub narrow_space : m.spaces ≤ m.width → eqb b (ch " ") ≡ true → narrow m b ≡ record { width = m.width; spaces = m.spaces + 1 }
    unfolding narrow
    narrow_space h q = simp (e, tests, q, narrow)

    -- Any other byte decides the line.
    pub narrow_other : m.spaces ≤ m.width → eqb b (ch " ") ≡ false → narrow m b ≡ record { width = m.spaces; spaces = m.spaces + 1 }
    unfolding narrow
    narrow_other h q = simp (e, tests, q, narrow)

-- The spaces grow by one at most.
pub narrow_spaces : (m : Margin) (b : ℕ) → (narrow m b).spaces ≤ m.spaces + 1
narrow_spaces m b =
    by_outcome (eqb b (ch "\n"))
    (λ e. rw (narrow_newline m b e) (omega arith))
    (λ e.
    by_order m.width m.spaces
    (λ h. rw (narrow_decided m b e h) (omega arith))
    (λ h.
    by_outcome (eqb b (ch " "))
    (λ q. rw (narrow_space m b e h q) (omega arith))
    (λ q. rw (narrow_other m b e h q) (omega arith))))

-- ---- lines

-- the width that some lines leave, where the margin is that of the first one so far
abbrev lines_from : Margin → List Bytes → ℕ
lines_from m [] = m.width
lines_from m (l ∷ ls) = trim_width (empty_prefix m.width m.spaces l) ls

-- A byte in front of the first line narrows the margin.
lines_onto : (m : Margin) (b : ℕ) (ls : List Bytes) → eqb b (ch "\n") ≡ false → lines_from m (onto_first b ls) ≡ lines_from (narrow m b) ls
unfolding onto_first trim_width empty_prefix
lines_onto m b ls e = go ls
  where
    k : ℕ
    k = m.width

    i : ℕ
    i = m.spaces

    -- by what the byte makes of the margin
    same : (l : Bytes) (ls : List Bytes) {n : Margin} → empty_prefix k i (b ∷ l) ≡ empty_prefix n.width n.spaces l → narrow m b ≡ n
        → trim_width (empty_prefix k i (b ∷ l)) ls ≡ lines_from (narrow m b) (l ∷ ls)
    same l ls p q = ap (λ (w : ℕ). trim_width w ls) p ∙ ap (λ (n : Margin). lines_from n (l ∷ ls)) (sym q)

    first : (l : Bytes) (ls : List Bytes) → trim_width (empty_prefix k i (b ∷ l)) ls ≡ lines_from (narrow m b) (l ∷ ls)
    first l ls =
        by_order k i
        (λ h. same l ls (prefix_decided k i (b ∷ l) h ∙ sym (prefix_decided k i l h)) (narrow_decided m b e h))
        (λ h.
        by_outcome (eqb b (ch " "))
        (λ q. same l ls (prefix_space k i b l h q) (narrow_space m b e h q))
        (λ q. same l ls (prefix_other k i b l h q ∙ sym (prefix_decided i (i + 1) l (omega arith))) (narrow_other m b e h q)))

    go : (ls : List Bytes) → lines_from m (onto_first b ls) ≡ lines_from (narrow m b) ls
    go [] = first [] []
    go (l ∷ ls) = first l ls

-- A first line of which no spaces have been passed is one of the lines.
lines_all : (k : ℕ) (ls : List Bytes) → trim_width k ls ≡ lines_from (record { width = k; spaces = 0 }) ls
unfolding trim_width
lines_all k [] = refl
lines_all k (l ∷ ls) = refl

-- The lines of some bytes leave what the bytes do.
lines_width : (m : Margin) (l : Bytes) → lines_from m (split_lines l) ≡ width_of m l
unfolding split_lines width_of trim_width empty_prefix
lines_width m [] = refl
lines_width m (b ∷ l) =
    by_test (λ ls. lines_from m ls ≡ width_of (narrow m b) l) (eqb b (ch "\n"))
    (λ e.
    lines_all m.width (split_lines l)
    ∙ ap (λ (n : Margin). lines_from n (split_lines l)) (sym (narrow_newline m b e))
    ∙ lines_width (narrow m b) l)
    (λ e. lines_onto m b (split_lines l) e ∙ lines_width (narrow m b) l)

-- ---- the width of a piece

-- The definition's width is what the bytes leave of the column.
pub width_is : (column : ℕ) (l : Bytes) → trim_width column (split_lines l) ≡ width_of (record { width = column; spaces = 0 }) l
width_is column l = lines_all column (split_lines l) ∙ lines_width (record { width = column; spaces = 0 }) l

-- A width of 0 stays.
pub width_none : (m : Margin) (l : Bytes) → m.width ≡ 0 → width_of m l ≡ 0
unfolding width_of
width_none m [] z = z
width_none m (b ∷ l) z = width_none (narrow m b) l (stays m b z)
  where
    stays : (m : Margin) (b : ℕ) → m.width ≡ 0 → (narrow m b).width ≡ 0
    stays m b z =
        by_outcome (eqb b (ch "\n"))
        (λ e. rw (narrow_newline m b e) z)
        (λ e.
        by_order m.width m.spaces
        (λ h. rw (narrow_decided m b e h) z)
        (λ h.
        by_outcome (eqb b (ch " "))
        (λ q. rw (narrow_space m b e h q) z)
        (λ q. rw (narrow_other m b e h q) (omega arith))))

-- Within the piece's part of the text, the byte there narrows the margin.
width_on : (m : Margin) (part : Bytes) (i : ℕ) → i < length part
    → width_of m (coming part i) ≡ width_of (narrow m (get_or part i 0)) (coming part (i + 1))
unfolding width_of
width_on m part i h = ap (width_of m) (coming_cons part i h)

-- The two bytes of the piece's end decide what is left of its last line.
mark_width : (m : Margin) → width_of m (ch "*" ∷ ch ")" ∷ []) ≡ narrowest m
unfolding width_of narrowest
mark_width m =
    by_order m.width m.spaces
    (λ h. let q = narrow_decided m (ch "*") refl h in
    ap (λ (n : Margin). (narrow n (ch ")")).width) q ∙ ap (λ (n : Margin). n.width) (narrow_decided m (ch ")") refl h) ∙ simp (tests, narrowest))
    (λ h. let n : Margin = record { width = m.spaces; spaces = m.spaces + 1 } in
    ap (λ (n : Margin). (narrow n (ch ")")).width) (narrow_other m (ch "*") refl h refl)
    ∙ ap (λ (n : Margin). n.width) (narrow_decided n (ch ")") refl (omega arith)) ∙ simp (tests, narrowest))

-- So they do after the part of the text.
width_end : (m : Margin) (part : Bytes) (i : ℕ) → length part ≤ i → width_of m (coming part i) ≡ narrowest m
width_end m part i h = ap (width_of m) (coming_past part i h) ∙ mark_width m

-- ---- a walk over a piece

-- after i bytes of the piece's part of the text: the margin gives what the whole piece gives, with few enough spaces to count on
pub record Going (column : ℕ) (all part : Bytes) (m : Margin) (i : ℕ) : Type 0 where
  pub same : width_of m (coming part i) ≡ trim_width column (split_lines all)
  pub few : m.spaces ≤ i

pub going_starts : {column : ℕ} {all part : Bytes} → coming part 0 ≡ all → Going column all part (record { width = column; spaces = 0 }) 0
going_starts {column} {all} e = record {
  same = ap (width_of (record { width = column; spaces = 0 })) e ∙ sym (width_is column all);
  few = omega arith;
}

module _ {column i : ℕ} {all part : Bytes} {m : Margin} (g : Going column all part m i) where
  pub going_on : {n : Margin} → i < length part → n ≡ narrow m (get_or part i 0) → Going column all part n (i + 1)
  going_on h e =
      rw e record { same = sym (width_on m part i h) ∙ g.same; few = omega (arith, narrow_spaces m (get_or part i 0), g.few) }

  pub going_ends : length part ≤ i → narrowest m ≡ trim_width column (split_lines all)
  going_ends h = sym (width_end m part i h) ∙ g.same
