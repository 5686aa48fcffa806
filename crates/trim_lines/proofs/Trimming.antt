-- What the functions give together is `maybe_trim_lines`. Rests on the laws of the width and of the bytes that stay.
use Prim.Native.Nat.{ℕ, ◌+◌, ◌-◌, ◌≤◌}
use mathlib.Core.Path.{◌≡◌, refl, sym, ap, ◌∙◌}
use native.Mathlib.Omega.{arith}
use lib.Dec.{eqb}
use lib.ListN.{length}
use borrow.Author.Tests.{eqb-true}
use Rattle.definition.specs.Basics.{Bytes}
use Rattle.definition.specs.Trim.{split_lines, trim_width, maybe_trim_lines}
use Rattle.lemmas.proofs.Cases.{by_test}
use Rattle.reader.specs.Described.{trimmed}
use Rattle.trim_lines.specs.Trimming.{piece}
use Rattle.trim_lines.proofs.Pieces.{piece_length}
use Rattle.trim_lines.proofs.Widths.{width_is, width_none}
use Rattle.trim_lines.proofs.Kept.{kept_all, kept_shorter}
use Rattle.trim_lines.proofs.Lines.{kept_is}

-- Where lines lose nothing nothing changes.
pub trimmed_none : (l : Bytes) → trimmed 0 l ≡ l
trimmed_none l = kept_is 0 l ∙ kept_all l

-- Then the piece has its two bytes and its part of the text.
pub whole_length : (s : Bytes) (from to width : ℕ) → to ≤ length s → width ≡ 0 → length (trimmed width (piece s from to)) ≡ (to - from) + 2
whole_length s from to width k z =
    ap (λ (w : ℕ). length (trimmed w (piece s from to))) z ∙ ap length (trimmed_none (piece s from to)) ∙ piece_length from to s k

-- Trimming makes nothing longer.
pub trimmed_shorter : (width : ℕ) (l : Bytes) → length (trimmed width l) ≤ length l
trimmed_shorter width l = omega (arith, ap length (kept_is width l), kept_shorter width width l)

-- At any start column a comment is trimmed by the width of its lines, which is 0 at column 0.
pub trimming_is : (column : ℕ) (l : Bytes) → maybe_trim_lines column l ≡ trimmed (trim_width column (split_lines l)) l
unfolding maybe_trim_lines
trimming_is column l =
    by_test (λ m. m ≡ trimmed (trim_width column (split_lines l)) l) (eqb column 0)
    (λ e. sym (ap (λ (w : ℕ). trimmed w l) (width_is column l ∙ width_none _ l (eqb-true column 0 e)) ∙ trimmed_none l))
    (λ e. refl)
