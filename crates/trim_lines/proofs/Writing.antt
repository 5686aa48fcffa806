-- The bytes that stay, written one by one to the front of a buffer. Rests on the laws of such copies and of the bytes that stay.
use Prim.Native.Nat.{ℕ, ◌+◌, ◌≤◌, ◌<◌}
use mathlib.Core.Path.{◌≡◌, sym, ap, ◌∙◌}
use mathlib.Core.Bool.{true, false}
use mathlib.Core.List.{[], ◌∷◌}
use native.Mathlib.Nat.{add-zero}
use native.Mathlib.Omega.{arith}
use lib.ListN.{length, get_or, drop, set, length-drop}
use lib.Seq.{drop-drop, get_or-drop}
use Rattle.definition.specs.Basics.{Bytes, ch}
use Rattle.lemmas.specs.Over.{over}
use Rattle.lemmas.proofs.Cases.{by_outcome}
use Rattle.lemmas.proofs.Copies.{Copied, copied_starts, copied_length, copied_goes_on, copied_ends}
use Rattle.trim_lines.specs.Trimming.{keeps, left_after, kept, Fits, Puts}
use Rattle.trim_lines.proofs.Pieces.{coming, coming_cons, coming_past}
use Rattle.trim_lines.proofs.Kept.{kept_stays, kept_goes}

-- n of the bytes bs are written, and what stays of the bytes to come is the others
pub record Writing (bs before : Bytes) (width left : ℕ) (coming : Bytes) (n : ℕ) (after : Bytes) : Type 0 where
  pub copied : Copied bs before n after
  pub others : drop n bs ≡ kept width left coming

module _ {bs before : Bytes} {width : ℕ} where
  -- At first none is.
  pub writing_starts : {coming : Bytes} → bs ≡ kept width width coming → length bs ≤ length before → Writing bs before width width coming 0 before
  writing_starts e h = record { copied = copied_starts bs before h; others = e }

  module _ {left b n : ℕ} {coming after : Bytes} (w : Writing bs before width left (b ∷ coming) n after) where
    -- a byte that stays is the next of the others
    next : keeps left b ≡ true → drop n bs ≡ b ∷ kept width (left_after width left b) coming
    next e = w.others ∙ kept_stays width left b coming e

    some_left : keeps left b ≡ true → n < length bs
    some_left e = omega (arith, length-drop n bs, ap length (next e))

    -- It has a place in the buffer.
    pub writing_fits : Fits left b n after
    writing_fits e = omega (arith, some_left e, w.copied.room, copied_length w.copied)

    -- After it there is a byte less to come.
    pub writing_on : {after' : Bytes} {m d : ℕ} → Puts (keeps left b) b n after after' m → d ≡ left_after width left b
        → Writing bs before width d coming m after'
    writing_on {after'} {m} {d} p q = rw q (by_outcome (keeps left b) stays goes)
      where
        stays : keeps left b ≡ true → Writing bs before width (left_after width left b) coming m after'
        stays e =
            let a : after' ≡ set after n b = rw e at p.bytes in
            let k : m ≡ n + 1 = rw e at p.next in
            let l : get_or bs n 0 ≡ b =
            ap (λ (i : ℕ). get_or bs i 0) (sym (add-zero n)) ∙ sym (get_or-drop n bs 0 0) ∙ ap (λ (l : Bytes). get_or l 0 0) (next e) in
            rw (a, k) record {
              copied = copied_goes_on w.copied (some_left e) (sym l);
              others = sym (drop-drop 1 n bs) ∙ ap (drop 1) (next e);
            }

        goes : keeps left b ≡ false → Writing bs before width (left_after width left b) coming m after'
        goes e =
            let a : after' ≡ after = rw e at p.bytes in
            let k : m ≡ n = rw e at p.next ∙ add-zero n in
            rw (a, k) record { copied = w.copied; others = w.others ∙ kept_goes width left b coming e }

  -- When none is to come all are written.
  pub writing_ends : {left n : ℕ} {after : Bytes} → Writing bs before width left [] n after → after ≡ over bs before
  unfolding kept
  writing_ends {left} {n} w = copied_ends w.copied (omega (arith, length-drop n bs, ap length w.others))

  -- ---- a piece

  module _ (part : Bytes) (i : ℕ) {left n : ℕ} {after : Bytes} (w : Writing bs before width left (coming part i) n after) where
    -- Within its part of the text the byte there comes next.
    pub writing_at : i < length part → Writing bs before width left (get_or part i 0 ∷ coming part (i + 1)) n after
    writing_at h = rw (coming_cons part i h) at w

    -- After it the two bytes of the piece's end do.
    pub writing_mark : length part ≤ i → Writing bs before width left (ch "*" ∷ ch ")" ∷ []) n after
    writing_mark h = rw (coming_past part i h) at w
