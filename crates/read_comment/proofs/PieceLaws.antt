-- What is read of a piece is what the definition's `terminate` gives. Rests on the laws of trimming and of columns.
use Prim.Native.Nat.{ℕ, ◌≤◌}
use mathlib.Core.Path.{◌≡◌, refl, sym, ap, ◌∙◌}
use mathlib.Core.Bool.{Bool}
use native.Mathlib.Omega.{arith}
use lib.ListN.{length}
use Rattle.definition.specs.Basics.{Bytes}
use Rattle.definition.specs.Trim.{split_lines, trim_width, maybe_trim_lines}
use Rattle.definition.specs.State.{close_comment}
use Rattle.definition.specs.Item.{item_of}
use Rattle.definition.specs.Comment.{terminate}
use Rattle.definition.specs.declared.State.{State}
use Rattle.definition.specs.declared.Extra.TheVariants.{Comment}
use Rattle.lemmas.proofs.Cases.{by_lt}
use Rattle.position.specs.Columns.{located}
use Rattle.position.specs.declared.Cache.{Cache}
use Rattle.position.specs.declared.Located.{Located}
use Rattle.position.proofs.Counting.{known_again}
use Rattle.reader.specs.Described.{trimmed, KnownAt}
use Rattle.reader.specs.declared.Cursor.{Cursor}
use Rattle.reader.specs.declared.Payload.TheVariants.{Piece}
use Rattle.reader.proofs.Standing.{known_kept}
use Rattle.trim_lines.specs.Trimming.{piece}
use Rattle.trim_lines.proofs.Pieces.{piece_length}
use Rattle.trim_lines.proofs.Trimming.{trimming_is, trimmed_shorter}
use Rattle.read_comment.specs.LineCommentContracts.{ReadsAny}
use Rattle.read_comment.specs.CommentContracts.{Ending}

-- Closing a level leaves the line as it is.
pub known_close : {s : Bytes} {st : State} {known : Cache} → KnownAt s st known → KnownAt s (close_comment st) known
unfolding close_comment
known_close {s} {st} {known} k =
    by_lt (λ b. KnownAt s b known) 1 st.depth (λ _. known_kept st _ refl refl k) (λ _. known_kept st _ refl refl k)

module _ {s : Bytes} {to : ℕ} {at : Cursor} (from : ℕ) (h : Ending s to at) where
  -- A trimmed piece is short.
  pub piece_short : (width : ℕ) {n : ℕ} → n ≡ length (trimmed width (piece s from to)) → n ≤ 1048578
  piece_short width e =
      omega (arith, trimmed_shorter width (piece s from to), piece_length from to s h.within, h.within, h.standing.stands.short)

  -- What is made of a piece's width, length and end position is what `terminate` gives.
  pub piece_reads : {width n : ℕ} {closed : Bool} {end : Located} {next : State}
      → width ≡ trim_width at.st.comment.col (split_lines (piece s from to))
      → n ≡ length (trimmed width (piece s from to))
      → end ≡ located s at.st at.st.offset
      → next ≡ close_comment at.st
      → ReadsAny s (terminate s from to closed at.st) (record {
        item = item_of 0 n from at.st.comment end.pos (Comment closed) next;
        payload = Piece from to width n;
        next = next;
        known = end.known;
      })
  piece_reads {width} {n} {closed} {end} {next} p q r t name f =
      let bytes : trimmed width (piece s from to) ≡ maybe_trim_lines at.st.comment.col (piece s from to) =
      ap (λ (w : ℕ). trimmed w (piece s from to)) p ∙ sym (trimming_is at.st.comment.col (piece s from to)) in
      let size : n ≡ length (maybe_trim_lines at.st.comment.col (piece s from to)) = q ∙ ap length bytes in
      record {
        item = rw (size, r, t) refl;
        payload = record { is = bytes; long = size; inside = h.within };
        next = t;
        known = rw r (known_close (known_again _ s at.st at.st.offset h.standing.stands.sound.order));
      }
