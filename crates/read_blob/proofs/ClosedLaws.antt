-- A blob that is built from its header and from where its contents stand is the definition's. Rests on the laws of where a
-- reader stands.
use Prim.Native.Nat.{ℕ, ◌+◌, ◌-◌, ◌≤◌}
use mathlib.Core.Path.{◌≡◌, refl, sym, ap, ◌∙◌}
use mathlib.Core.Bool.{Bool}
use lib.ListN.{length, length-append}
use lib.Seq.{length-slice}
use Rattle.definition.specs.Basics.{Bytes}
use Rattle.definition.specs.Text.{lexeme}
use Rattle.definition.specs.State.{advance}
use Rattle.definition.specs.Item.{item_of}
use Rattle.definition.specs.declared.State.{State}
use Rattle.definition.specs.declared.Extra.TheVariants.{Blob}
use Rattle.state.specs.Sound.{Stands}
use Rattle.position.specs.Columns.{located}
use Rattle.position.specs.declared.Located.{Located}
use Rattle.laws_run.proofs.Moving.{stands_within}
use Rattle.reader.specs.declared.Payload.TheVariants.{Blob as Blob_of}
use Rattle.reader.specs.declared.Cursor.{Cursor}
use Rattle.reader.specs.Described.{Describes, Reads}
use Rattle.reader.proofs.Standing.{known_asked, known_kept, position_kept}
use Rattle.read_blob.specs.declared.Header.{Header}
use Rattle.read_blob.specs.Contents.{header_of, kind_of, blob_step, InBlob}

module _ (s : Bytes) (header : Header) (lang : Bool) (from : ℕ) (at : Cursor) (e : ℕ) (h : InBlob s header from at) (next : Stands s (advance at.st e)) where
  abbrev st : State
  st = at.st

  here : st.offset ≤ length s
  here = stands_within h.standing.stands

  -- the two parts
  describes : (name f : Bytes) → Describes s name f (Blob_of header.from header.to from st.offset) (blob_step s lang from (header_of s header) st e).payload
  describes name f = record {
    is = refl;
    long =
        sym (length-append (lexeme s header.from header.to) (lexeme s from st.offset)
        ∙ ap (λ (n : ℕ). n + length (lexeme s from st.offset)) (length-slice header.from header.to s h.named)
        ∙ ap (λ (n : ℕ). (header.to - header.from) + n) (length-slice from st.offset s here));
    inside = (h.named, here);
  }

  pub closed_reads : (start end : Located) (k n m : ℕ) (after : State) → start ≡ located s st st.offset → end ≡ located s st e
      → k ≡ kind_of lang → n ≡ header.to - header.from → m ≡ st.offset - from → after ≡ advance st e → (name f : Bytes)
      → Reads s name f (blob_step s lang from (header_of s header) st e)
      (record {
        item = item_of k n header.start start.pos end.pos (Blob m header.pos header.snap) after;
        payload = Blob_of header.from header.to from st.offset;
        next = after;
        known = end.known;
      })
  closed_reads start end k n m after p q r a b c name f = record {
    item = rw (p, q, r, a, b, c, length-slice header.from header.to s h.named, length-slice from st.offset s here, position_kept s st (advance st e) e refl refl refl);
    payload = describes name f;
    next = c;
    known = rw q (known_kept st (advance st e) refl refl (known_asked h.standing e next.sound.order));
  }
