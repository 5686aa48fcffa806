-- Looking ahead by the fast path: lent no more than the records that are written, it writes nothing. Rests on what the fast path promises.
use Prim.Native.Nat.{ℕ, ◌*◌}
use mathlib.Core.Path.{◌≡◌, sym, ap, subst, ◌∙◌}
use mathlib.Core.List.{List, [], ◌++◌}
use native.Mathlib.Omega.{arith}
use lib.ListN.{length, take, drop, take-append-drop}
use lib.Seq.{length-take-le}
use Rattle.definition.specs.Basics.{Bytes}
use Rattle.definition.specs.Item.{record_size}
use Rattle.definition.specs.Run.{run_turn}
use Rattle.reader.specs.declared.Cursor.{Cursor}
use Rattle.run_turn.specs.Running.{writing, Between, StandsAhead}
use Rattle.fast_path.specs.TokensWritten.{WritesTokens}
use Rattle.fast_path.specs.declared.TokensWritten.{TokensWritten}
use Rattle.utf16_turn.specs.Turning.{LooksAhead}

module _ {s f : Bytes} {from : Cursor} {count used : ℕ} {rs : List ℕ} {ps : Bytes} (b : Between s [] f from count used rs ps) where
  abbrev written : List ℕ
  written = take (record_size * count) rs

  pub written_long : record_size * count ≡ length (take (record_size * count) rs)
  written_long = sym (length-take-le (record_size * count) rs b.kept.begun)

  -- what the fast path asks for
  pub tokens_asked : Between s [] f from count used (take (record_size * count) rs) ps
  tokens_asked =
      let k = b.kept in
      record {
        accepted = b.accepted;
        named = b.named;
        kept = record { stands = k.stands; begun = omega (arith, written_long); filled = k.filled; spent = k.spent; few = k.few };
        cached = b.cached;
      }

  -- what it has done
  pub looked : {w : TokensWritten} {l : List ℕ} {ps' : Bytes} → WritesTokens s f from count used (take (record_size * count) rs) ps w l ps'
      → LooksAhead s f from (record { here = w.here; item = w.ahead }) rs ps (l ++ drop (record_size * count) rs) ps'
  looked {w} {l} t =
      let n = t.full (omega (arith, written_long)) in
      record {
        ahead = λ name named. subst (λ (at : Cursor). StandsAhead s name f at w.here w.ahead) n.0 (t.ahead name named);
        records = ap (λ (x : List ℕ). x ++ drop (record_size * count) rs) n.3 ∙ take-append-drop (record_size * count) rs;
        payload = n.4;
      }

-- after it the run stands where it stood, with the same buffers
module _ {from at : Cursor} {rs rs' : List ℕ} {ps ps' : Bytes} (e : from ≡ at) (same : rs' ≡ rs) (same_payload : ps' ≡ ps) where
  pub between_still : {s name f : Bytes} {count used : ℕ} → Between s name f at count used rs ps → Between s name f from count used rs' ps'
  between_still b = rw (e, same, same_payload) b

  pub turn_still : (s name f : Bytes) (count used : ℕ)
      → run_turn s name f (writing from count used rs' ps') ≡ run_turn s name f (writing at count used rs ps)
  turn_still s name f count used = rw (e, same, same_payload)
