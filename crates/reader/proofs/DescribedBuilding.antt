-- A token that is built from a description reads the definition's, and so does an error. Rests on the laws of where a reader stands.
use Prim.Native.Nat.{ℕ}
use mathlib.Core.Path.{◌≡◌, refl, ap, ◌∙◌}
use mathlib.Core.List.{[]}
use native.Mathlib.Omega.{arith}
use Rattle.definition.specs.Basics.{Bytes}
use Rattle.definition.specs.Kinds.{kind}
use Rattle.definition.specs.Position.{cur_pos}
use Rattle.definition.specs.State.{ended}
use Rattle.definition.specs.Item.{item_of, tok, lex_error}
use Rattle.definition.specs.declared.Pos.{Pos}
use Rattle.definition.specs.declared.State.{State}
use Rattle.definition.specs.declared.Extra.{Extra}
use Rattle.definition.specs.declared.Extra.TheVariants.{LexError}
use Rattle.position.specs.Columns.{located}
use Rattle.position.specs.declared.Located.{Located}
use Rattle.position.specs.declared.Cache.{Cache}
use Rattle.reader.specs.declared.Payload.{Payload}
use Rattle.reader.specs.declared.Payload.TheVariants.{Part}
use Rattle.reader.specs.declared.Read.{Read}
use Rattle.reader.specs.Described.{length_of, Describes, KnownAt, Reads}
use Rattle.reader.specs.Standing.{Standing}
use Rattle.reader.proofs.Standing.{known_asked, known_kept}

-- a token whose payload has n bytes
pub token_reads : (s name f bytes : Bytes) (k : ℕ) (p : Payload) (from : ℕ) (sp ep : Pos) (extra : Extra) (next : State) (known : Cache) (n : ℕ)
    → n ≡ length_of name p → Describes s name f p bytes → KnownAt s next known
    → Reads s name f (tok k bytes from sp ep extra next) (record { item = item_of k n from sp ep extra next; payload = p; next = next; known = known })
token_reads s name f bytes k p from sp ep extra next known n e d q = record {
  item = ap (λ (m : ℕ). item_of k m from sp ep extra next) (e ∙ d.long);
  payload = d;
  next = refl;
  known = q;
}

-- an error's token stands where the state does
pub error_reads : {s name f bytes : Bytes} {st : State} {known : Cache} {number : ℕ} {p1 p2 : Pos} {r : Read} (here : Located) (next : State)
    → Standing s st known → here ≡ located s st st.offset → next ≡ ended st
    → (KnownAt s next here.known → Reads s name f (tok (kind "ERROR") bytes st.offset here.pos here.pos (LexError number p1 p2) next) r)
    → Reads s name f (lex_error s st number bytes p1 p2) r
error_reads {s} {name} {f} {bytes} {st} {known} {number} {p1} {p2} {r} here next h e q build =
    let known : KnownAt s (ended st) (located s st st.offset).known =
    known_kept st (ended st) refl refl (known_asked h st.offset h.stands.sound.order) in
    let built = rw (e, q) at build in
    built known

-- an error without a payload stands there too
pub error_here_reads : {s name : Bytes} {number : ℕ} {r : Read} (st : State) (here : Located) → here ≡ located s st st.offset
    → ((f bytes : Bytes) → Describes s name f (Part 0 0) bytes → Reads s name f (lex_error s st number bytes here.pos here.pos) r)
    → (f : Bytes) → Reads s name f (lex_error s st number [] (cur_pos s st) (cur_pos s st)) r
error_here_reads {s} {name} {number} {r} st here e build f =
    let built = rw e at build in
    built f [] (record { is = refl; long = refl; inside = omega arith })
