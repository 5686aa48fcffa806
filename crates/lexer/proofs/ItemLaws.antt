-- A run goes on after its tokens. Rests on the laws of a run that goes on.
use Prim.Native.Nat.{ℕ}
use mathlib.Core.List.{List}
use Rattle.definition.specs.Basics.{Bytes}
use Rattle.definition.specs.declared.State.{State}
use Rattle.reader.specs.declared.Cursor.{Cursor}
use Rattle.run_turn.specs.Running.{Going}
use Rattle.run_turn.proofs.RunLaws.{between_any, going_from}
use Rattle.fast_path.specs.TokensWritten.{WritesTokens}
use Rattle.fast_path.specs.declared.TokensWritten.{TokensWritten}

pub after_tokens : {s name f : Bytes} {st : State} {rs₀ : List ℕ} {ps₀ : Bytes} {at : Cursor} {count used : ℕ} {rs : List ℕ} {ps : Bytes} {b : TokensWritten} {rs' : List ℕ} {ps' : Bytes}
    → Going s name f st rs₀ ps₀ at count used rs ps → WritesTokens s f at count used rs ps b rs' ps'
    → Going s name f st rs₀ ps₀ b.at b.count b.used rs' ps'
after_tokens {name = name} g w = let named = g.between.named in going_from g (between_any w.between name named) (w.same name named)
