-- How many bytes of a piece stay. Rests on the laws of the bytes that stay.
use Prim.Native.Nat.{ℕ, zero, suc, ◌+◌, ◌-◌, ◌≤◌, ◌<◌}
use mathlib.Core.Path.{◌≡◌, refl, ap, ◌∙◌}
use mathlib.Core.List.{[], ◌∷◌}
use native.Mathlib.Omega.{arith}
use lib.ListN.{length, get_or}
use lib.Seq.{slice}
use Rattle.definition.specs.Basics.{Bytes, ch}
use Rattle.reader.specs.Described.{trimmed}
use Rattle.trim_lines.specs.Trimming.{piece, keeps, left_after, kept, one_if, Short}
use Rattle.trim_lines.proofs.Kept.{kept_less, kept_more, kept_count, kept_shorter}
use Rattle.trim_lines.proofs.Pieces.{coming, coming_all, coming_cons, coming_past, piece_length}
use Rattle.trim_lines.proofs.Lines.{kept_is}

-- ---- the bytes of a piece that stay

module _ (part : Bytes) (width left i : ℕ) where
  -- The next byte of the text's part counts 1 or 0.
  piece_count : i < length part
      → length (kept width left (coming part i))
      ≡ one_if (keeps left (get_or part i 0)) + length (kept width (left_after width left (get_or part i 0)) (coming part (i + 1)))
  piece_count h = rw (coming_cons part i h) (kept_count width left (get_or part i 0) (coming part (i + 1)))

  -- After it, of the last two bytes those stay that their line doesn't lose.
  piece_rest : length part ≤ i → length (kept width left (coming part i)) ≡ 2 - left
  unfolding kept
  piece_rest h = ap (λ (l : Bytes). length (kept width left l)) (coming_past part i h) ∙ mark_count left
    where
      mark_count : (left : ℕ) → length (kept width left (ch "*" ∷ ch ")" ∷ [])) ≡ 2 - left
      mark_count zero =
          ap length (kept_more width (ch "*") (ch ")" ∷ []) refl) ∙ ap (λ (l : Bytes). suc (length l)) (kept_more width (ch ")") [] refl)
      mark_count (suc zero) =
          ap length (kept_less width 0 (ch "*") (ch ")" ∷ []) refl) ∙ ap length (kept_more width (ch ")") [] refl)
      mark_count (suc (suc left)) =
          ap length (kept_less width (suc left) (ch "*") (ch ")" ∷ []) refl) ∙ ap length (kept_less width left (ch ")") [] refl) ∙ omega arith

-- ---- counting them

-- after i bytes of the piece's part of the text: those counted and those to come are all that stay, and they are few
pub record Counting (s : Bytes) (from to width : ℕ) (part : Bytes) (n left i : ℕ) : Type 0 where
  pub all : n + length (kept width left (coming part i)) ≡ length (trimmed width (piece s from to))
  pub short : length (trimmed width (piece s from to)) ≤ 1048578

pub counting_starts : {s part : Bytes} {from to : ℕ} (width : ℕ) → Short s to → part ≡ slice from to s → Counting s from to width part 0 width 0
counting_starts {s} {part} {from} {to} width h p =
    let e = ap length (kept_is width (piece s from to)) in
    record {
      all = omega (arith, e, ap (λ (l : Bytes). length (kept width width l)) (coming_all p));
      short = omega (arith, e, kept_shorter width width (piece s from to), piece_length from to s h.within, h.short);
    }

module _ {s part : Bytes} {from to width n left i : ℕ} (g : Counting s from to width part n left i) where
  -- the next byte
  pub counting_on : {k d : ℕ} → i < length part → k ≡ one_if (keeps left (get_or part i 0)) → d ≡ left_after width left (get_or part i 0)
      → Counting s from to width part (n + k) d (i + 1)
  counting_on l p q = rw (p, q) record { all = omega (arith, piece_count part width left i l, g.all); short = g.short }

  pub counting_ends : length part ≤ i → n + (2 - left) ≡ length (trimmed width (piece s from to))
  counting_ends l = omega (arith, piece_rest part width left i l, g.all)
