-- Where what is read on from after a choice begins. Rests on the laws of where a reader stands.
use Prim.Native.Nat.{ℕ, ◌+◌, ◌≤◌}
use native.Mathlib.Omega.{arith}
use mathlib.Core.Path.{◌≡◌, refl, ap, subst, ◌∙◌}
use lib.ListN.{length}
use Rattle.definition.specs.Basics.{Bytes}
use Rattle.definition.specs.ClassFile.{class_check}
use Rattle.definition.specs.Text.{lexeme}
use Rattle.definition.specs.Position.{cur_pos}
use Rattle.definition.specs.State.{advance, open_comment}
use Rattle.definition.specs.Comment as source
use Rattle.definition.specs.Strings.{string_lit}
use Rattle.definition.specs.Item.{Step}
use Rattle.definition.specs.Token.{blob_header}
use Rattle.definition.specs.Blob as blob_source
use Rattle.definition.specs.declared.State.{State}
use Rattle.position.specs.Columns.{located}
use Rattle.position.specs.declared.Located.{Located}
use Rattle.laws_run.proofs.Moving.{open_stands}
use Rattle.reader.specs.Described.{Reads}
use Rattle.reader.specs.Standing.{Standing}
use Rattle.reader.specs.Cursors.{moved}
use Rattle.reader.specs.declared.Cursor.{Cursor}
use Rattle.reader.specs.declared.Read.{Read}
use Rattle.reader.proofs.Standing.{known_kept, known_asked}
use Rattle.read_comment.specs.LineCommentContracts.{After, ReadsAny}
use Rattle.read_comment.specs.CommentContracts.{InComment}
use Rattle.read_string.specs.Asks.{Reader}
use Rattle.read_blob.specs.Contents.{header_of, InBlob}
use Rattle.read_blob.specs.declared.Header.{Header}
use Rattle.reader.specs.Actions.{Chose}
use Rattle.reader.proofs.Spanning.{after_choice}
use Rattle.rule_readers.specs.Names.{Names}

module _ {s : Bytes} {at : Cursor} {e : ℕ} (h : Chose s at e) where
  -- after the choice a reader stands with what is known already
  pub stands_after : Standing s (advance at.st e) at.known
  stands_after = record { stands = after_choice h; cached = known_kept at.st (advance at.st e) refl refl h.standing.cached }

  -- ---- comments

  module _ {here : Located} {next inside : State} (p : here ≡ located s at.st at.st.offset) (q : next ≡ advance at.st e) (o : inside ≡ open_comment next here.pos) where
    opened : inside ≡ open_comment (advance at.st e) (cur_pos s at.st)
    opened = o ∙ ap (λ (b : State). open_comment b here.pos) q ∙ ap (λ (l : Located). open_comment (advance at.st e) l.pos) p

    -- the comment is read from its opening on
    pub in_comment : InComment s (record { st = inside; known = here.known })
    in_comment =
        rw (opened, p)
        (record {
          standing = record {
            stands = open_stands h.standing.stands h.between h.onward;
            cached = known_kept at.st (open_comment (advance at.st e) (cur_pos s at.st)) refl refl (known_asked h.standing at.st.offset h.standing.stands.sound.order);
          };
          mode = refl;
        })

    pub comment_reads : {r : Read} → ReadsAny s (source.comment s at.st.offset inside) r
        → ReadsAny s (source.comment s at.st.offset (open_comment (advance at.st e) (cur_pos s at.st))) r
    comment_reads {r} d name f = subst (λ (b : State). Reads s name f (source.comment s at.st.offset b) r) opened (d name f)

  -- ---- line comments, literals and blobs

  module _ {place : Cursor} (q : place ≡ moved at e) where
    -- a line's comment is read from after its slashes on
    pub after_slashes : After s at.st.offset place
    after_slashes = rw q (record { standing = stands_after; order = omega (arith, h.onward.past) })

    pub slashes_read : {r : Read} → ReadsAny s (source.line_comment s at.st.offset (lexeme s at.st.offset place.st.offset) place.st) r
        → ReadsAny s (source.line_comment s at.st.offset (lexeme s at.st.offset e) (advance at.st e)) r
    slashes_read {r} d name f =
        subst (λ (b : Cursor). Reads s name f (source.line_comment s at.st.offset (lexeme s at.st.offset b.st.offset) b.st) r) q (d name f)

    pub before_literal : {f : Bytes} → class_check f ≡ 0 → Reader s f place
    before_literal c = rw q (record { accepted = c; standing = stands_after; between = h.between })

    pub literal_reads : {name f : Bytes} {here : Located} {r : Read} → here ≡ located s at.st at.st.offset
        → Reads s name f (string_lit s f place.st at.st.offset here.pos) r
        → Reads s name f (string_lit s f (advance at.st e) at.st.offset (cur_pos s at.st)) r
    literal_reads p d = rw (q, p) at d

    -- the blob-header's name stands before
    module _ (n : ℕ) {hd : Header} (m : Names s (blob_header s at.st e n) e hd) where
      pub before_blob : InBlob s hd place.st.offset place
      before_blob =
          let named : hd.to ≤ length s = omega (arith, m.ends, h.onward.within) in
          rw q (record { standing = stands_after; between = h.between; begun = omega arith; named = named })

      -- what is read with the blob-header is read with the definition's
      pub blob_reads : {name f : Bytes} {r : Read} (read : blob_source.Header → State → Step)
          → Reads s name f (read (header_of s hd) place.st) r → Reads s name f (read (blob_header s at.st e n) (advance at.st e)) r
      blob_reads {name} {f} {r} read d =
          subst (λ (x : blob_source.Header). Reads s name f (read x (advance at.st e)) r) m.is
          (subst (λ (b : Cursor). Reads s name f (read (header_of s hd) b.st) r) q d)

  -- a blob-header has both of the choice's positions
  pub header_names : {start end : Located} (n : ℕ) → start ≡ located s at.st at.st.offset → end ≡ located s at.st e
      → Names s (blob_header s at.st e n) e
      (record { start = at.st.offset; from = at.st.offset + n; to = e; pos = end.pos; snap = start.pos })
  header_names n p q = record { is = rw (p, q) refl; ends = refl }
