-- A part of a slice that is lent is a lexeme, and a part of a part is one of the whole. Rests on the laws of lists.
use Prim.Native.Nat.{ℕ, zero, suc, ◌+◌, ◌-◌, ◌≤◌}
use native.Mathlib.Nat.{suc-add, zero-add}
use native.Mathlib.Omega.{arith}
use mathlib.Core.Path.{◌≡◌, sym, ap, ◌∙◌}
use mathlib.Core.List.{[], ◌∷◌}
use lib.ListN.{take, drop}
use lib.Seq.{take-nil, drop-nil, take-take, drop-drop}
use Rattle.definition.specs.Basics.{Bytes}
use Rattle.definition.specs.Text.{lexeme}

-- so many bytes after i are those up to there without the first
take_after : (i n : ℕ) (s : Bytes) → take n (drop i s) ≡ lexeme s i (i + n)
take_after zero n s = ap (λ (k : ℕ). take k s) (sym (zero-add n))
take_after (suc i) n [] = rw (drop-nil {A = ℕ} (suc i), take-nil {A = ℕ} n, take-nil {A = ℕ} (suc i + n))
take_after (suc i) n (x ∷ s) = take_after i n s ∙ ap (λ (k : ℕ). drop (suc i) (take k (x ∷ s))) (sym (suc-add i n))

-- the part from i up to e that is lent
pub part_is : (i e : ℕ) (s : Bytes) → i ≤ e → take (e - i) (drop i s) ≡ lexeme s i e
part_is i e s h =
    let q : i + (e - i) ≡ e = omega arith in
    take_after i (e - i) s ∙ ap (λ (k : ℕ). lexeme s i k) q

-- a part of it
pub part_of_part : (i e a b : ℕ) (s : Bytes) → i ≤ e → b ≤ e - i → lexeme (take (e - i) (drop i s)) a b ≡ lexeme s (i + a) (i + b)
part_of_part i e a b s h l =
    ap (drop a) (take-take b (e - i) (drop i s) l ∙ take_after i b s) ∙ drop-drop a i (take (i + b) s)
