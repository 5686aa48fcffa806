-- A character that is built from its positions is the definition's. Rests on the laws of spans.
use Prim.Native.Nat.{ℕ, ◌+◌}
use mathlib.Core.Path.{◌≡◌}
use mathlib.Core.List.{[]}
use Rattle.definition.specs.Basics.{Bytes}
use Rattle.definition.specs.Kinds.{kind}
use Rattle.definition.specs.State.{advance}
use Rattle.definition.specs.Item.{tok}
use Rattle.definition.specs.Escapes.{unescape}
use Rattle.definition.specs.Token.{char_lit}
use Rattle.definition.specs.declared.State.{State}
use Rattle.definition.specs.declared.Extra.TheVariants.{CharLit}
use Rattle.position.specs.Columns.{located}
use Rattle.position.specs.declared.Located.{Located}
use Rattle.reader.specs.Described.{Describes, KnownAt, Reads}
use Rattle.reader.specs.declared.Cursor.{Cursor}
use Rattle.reader.specs.declared.Payload.TheVariants.{Part}
use Rattle.reader.specs.declared.Read.{Read}
use Rattle.reader.specs.Actions.{Chose}
use Rattle.reader.proofs.Spanning.{nothing_describes, nothing_sized, spans}
use Rattle.reader.proofs.ActionBuilding.{span_reads}
use Rattle.rule_readers.specs.Does.{Does}

-- a character has no payload
pub char_does : {s name : Bytes} {at : Cursor} {e : ℕ} {start end : Located} {next : State} {c : ℕ} {r : Read} → Chose s at e
    → start ≡ located s at.st at.st.offset → end ≡ located s at.st e → next ≡ advance at.st e → c ≡ unescape s (at.st.offset + 1)
    → ((t f bytes : Bytes) → Describes t name f (Part 0 0) bytes → KnownAt t next end.known → Reads t name f (tok (kind "CHAR") bytes at.st.offset start.pos end.pos (CharLit c) next) r)
    → Does s name (char_lit s at.st e) r
char_does {s} {name} {at} {e} {start} {end} {next} h a b d q build f =
    rw (← q) (span_reads (spans h nothing_sized) start end next a b d (build s f [] (nothing_describes s name f)))
