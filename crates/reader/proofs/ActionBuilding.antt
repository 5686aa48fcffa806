-- A token or an error that is built from its positions is the definition's. Rests on the laws of where a reader stands.
use Prim.Native.Nat.{ℕ, ◌≤◌, ◌<◌}
use mathlib.Core.Path.{◌≡◌, refl, sym, subst}
use native.Mathlib.Omega.{arith}
use lib.ListN.{length}
use Rattle.definition.specs.Basics.{Bytes}
use Rattle.definition.specs.Position.{one_each, pos_of, cur_pos}
use Rattle.definition.specs.State.{advance}
use Rattle.definition.specs.Item.{tok, lex_error}
use Rattle.definition.specs.declared.Pos.{Pos}
use Rattle.definition.specs.declared.State.{State}
use Rattle.definition.specs.declared.Extra.{Extra}
use Rattle.position.specs.Columns.{Asked, located}
use Rattle.position.specs.declared.Located.{Located}
use Rattle.laws_run.proofs.Moving.{stands_within}
use Rattle.reader.specs.Described.{KnownAt, Reads}
use Rattle.reader.specs.declared.Cursor.{Cursor}
use Rattle.reader.specs.declared.Payload.{Payload}
use Rattle.reader.specs.declared.Read.{Read}
use Rattle.reader.proofs.Standing.{asks, known_asked, known_kept, position_kept}
use Rattle.reader.specs.Actions.{spanned, Chose, Spans}
use Rattle.reader.proofs.Spanning.{asked_stands}

module _ {s : Bytes} {at : Cursor} {e : ℕ} (h : Chose s at e) where
  -- an error over the choice has them as its range
  pub over_reads : {name f bytes : Bytes} {number : ℕ} {r : Read} (start end : Located) → start ≡ located s at.st at.st.offset → end ≡ located s at.st e
      → Reads s name f (lex_error s at.st number bytes start.pos end.pos) r
      → Reads s name f (lex_error s at.st number bytes (cur_pos s at.st) (pos_of s at.st e)) r
  over_reads start end p q built = rw (p, q) at built

module _ {s name : Bytes} {at : Cursor} {i e : ℕ} {p : Payload} (h : Spans s name at i e p) where
  -- no offset of a text is too large
  pub end_small : e < 4294967296
  end_small =
      let w : e ≤ length s = stands_within h.next in
      omega (arith, h.next.short)

  -- the end's position is asked for after the start's
  pub span_asked : (start : Located) → start ≡ located s at.st i → Asked one_each s at.st start.known e
  span_asked start q = asks (asked_stands start h.standing h.from q) e h.next.sound.order (stands_within h.next)

  -- the token has both
  pub span_reads : {f bytes : Bytes} {k : ℕ} {extra : Extra} {r : Read} (start end : Located) (next : State)
      → start ≡ located s at.st i → end ≡ located s at.st e → next ≡ advance at.st e
      → (KnownAt s next end.known → Reads s name f (tok k bytes at.st.offset start.pos end.pos extra next) r)
      → Reads s name f (spanned s at.st i e k bytes extra) r
  span_reads {f} {bytes} {k} {extra} {r} start end next a b c build =
      let st = at.st in
      let known : KnownAt s (advance st e) (located s st e).known =
      known_kept st (advance st e) refl refl (known_asked h.standing e h.next.sound.order) in
      let built = rw (a, b, c) at build in
      subst (λ (pos : Pos). Reads s name f (tok k bytes st.offset (pos_of s st i) pos extra (advance st e)) r)
      (sym (position_kept s st (advance st e) e refl refl refl)) (built known)
