-- What a turn of the reader answers is what the definition's turn makes of what stands there. Rests on the laws of where a reader
-- stands.
use Prim.Native.Nat.{ℕ, ◌+◌, ◌-◌, ◌≤◌, ◌<◌}
use mathlib.Core.Path.{◌≡◌, refl, sym, subst, ◌∙◌}
use native.Mathlib.Omega.{arith}
use lib.ListN.{length}
use Rattle.definition.specs.Basics.{Bytes}
use Rattle.definition.specs.Kinds.{kind}
use Rattle.definition.specs.State.{advance, new_line}
use Rattle.definition.specs.Item.{tok}
use Rattle.definition.specs.declared.Pos.{Pos}
use Rattle.definition.specs.declared.State.{State}
use Rattle.definition.specs.declared.Extra.TheVariants.{NoExtra}
use Rattle.state.specs.Sound.{Stands}
use Rattle.position.specs.Columns.{located}
use Rattle.position.specs.declared.Located.{Located}
use Rattle.laws_run.proofs.Moving.{stands_within}
use Rattle.reader.specs.declared.Payload.{Payload}
use Rattle.reader.specs.declared.Payload.TheVariants.{Part, Literal}
use Rattle.reader.specs.declared.Cursor.{Cursor}
use Rattle.reader.specs.declared.Read.{Read}
use Rattle.reader.specs.declared.ReadResult.{ReadResult}
use Rattle.reader.specs.Described.{literal, Sized, Describes, KnownAt, Reads, Turns}
use Rattle.reader.specs.Cursors.{moved, next_line}
use Rattle.reader.specs.Standing.{Standing}
use Rattle.reader.proofs.Standing.{known_asked, known_kept, known_line, position_kept}
use Rattle.read_string.specs.declared.moves.Move.{Move}
use Rattle.read_string.specs.Literal.{closed, does, states, Held}
use Rattle.read_string.specs.Asks.{Closing}

-- ---- what describes the literal

module _ {from count : ℕ} where
  -- either description is as long as the literal
  pub part_sized : {to n : ℕ} → count < 4294967296 → n ≡ to - from → count ≡ n → (name : Bytes) → Sized name (Part from to)
  part_sized h e q name = record { listed = tt; small = omega arith }

  -- the same of the other
  pub literal_sized : count < 4294967296 → (name : Bytes) → Sized name (Literal from count)
  literal_sized h name = record { listed = tt; small = h }

  -- the very bytes of the text, where there are as many
  pub part_held : {to n : ℕ} → n ≡ to - from → count ≡ n → (s name f acc : Bytes) → Held s f from to count acc → Describes s name f (Part from to) acc
  part_held {to} e q s name f acc h =
      let l : length acc ≡ to - from = sym h.counted ∙ q ∙ e in
      record { is = sym (h.plain l); long = sym l; inside = h.within }

  -- or what is read from its first byte on
  pub literal_held : {to : ℕ} (s name f acc : Bytes) → Held s f from to count acc → literal s f from ≡ acc → Describes s name f (Literal from count) acc
  literal_held s name f acc h e = record { is = e; long = h.counted; inside = tt }

-- ---- the closing quote

-- The token that is built there is the definition's.
pub close_reads : {s name : Bytes} {count e : ℕ} {at : Cursor} {quote : ℕ} {sp : Pos} {p : Payload} {r : Read} (end : Located) (next : State)
    → Closing s count at e → end ≡ located s at.st e → next ≡ advance at.st e
    → ((s f bytes : Bytes) → Describes s name f p bytes → KnownAt s next end.known → Reads s name f (tok (kind "STRING") bytes quote sp end.pos NoExtra next) r)
    → (f acc : Bytes) → Describes s name f p acc → Reads s name f (closed s acc quote sp at.st e) r
close_reads {s} {e = e} {at = at} end next h q a build f acc d =
    let st = at.st in
    let known : KnownAt s (advance st e) (located s st e).known =
    known_kept st (advance st e) refl refl (known_asked h.standing e h.next.sound.order) in
    let built = rw (q, a) at build in
    rw (position_kept s st (advance st e) e refl refl refl) (built s f acc d known)

-- ---- where reading goes on

-- up to byte e, on the same line
pub on_fits : {s : Bytes} (st : State) {e : ℕ} → Stands s (advance st e) → e < 4294967296
on_fits {s} st {e} h =
    let o : e ≤ length s = stands_within h in
    omega (arith, h.short)

-- up to byte e, where a line begins: no number of a new line is too large
pub line_fits : {s : Bytes} (st : State) {e : ℕ} → Stands s (new_line (advance st e)) → (e < 4294967296) × (st.line < 4294967295)
line_fits {s} st {e} h =
    let o : e ≤ length s = stands_within h in
    let l : st.line + 1 ≤ 1000000 + e = h.sound.line in
    (omega (arith, h.short), omega (arith, h.short))

module _ {s : Bytes} {at : Cursor} (h : Standing s at.st at.known) {e : ℕ} {p : Cursor} where
  -- what is known there
  pub on_known : p ≡ moved at e → (p.st ≡ advance at.st e) × KnownAt s (advance at.st e) p.known
  on_known c = rw c (refl, known_kept at.st (advance at.st e) refl refl h.cached)

  -- where a line begins
  pub line_known : p ≡ next_line at e → (p.st ≡ new_line (advance at.st e)) × KnownAt s (new_line (advance at.st e)) p.known
  line_known c = rw c (refl, known_line s at.st e)

-- what is made of a move is what the turn is
pub move_turns : (s name : Bytes) (quote : ℕ) (sp : Pos) (st : State) (m : Move) (r : ReadResult) (k : Move) → m ≡ k → (f acc : Bytes)
    → Turns s name f (states (does s quote sp st acc k)) r → Turns s name f (states (does s quote sp st acc m)) r
move_turns s name quote sp st m r k e f acc h = subst (λ (x : Move). Turns s name f (states (does s quote sp st acc x)) r) (sym e) h
