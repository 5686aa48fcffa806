-- What a move adds, written. Rests on the length of a part.
use Prim.Native.Nat.{ℕ, ◌≤◌}
use mathlib.Core.Path.{◌≡◌, refl, ap, ◌∙◌}
use mathlib.Core.List.{[]}
use native.Mathlib.Omega.{arith}
use lib.ListN.{length}
use lib.Seq.{length-slice}
use Rattle.definition.specs.Basics.{Bytes}
use Rattle.definition.specs.Text.{lexeme}
use Rattle.definition.specs.Utf8.{encode}
use Rattle.lemmas.specs.Over.{over, Wrote}
use Rattle.utf8.specs.Asks.{Encodes}
use Rattle.read_string.specs.declared.moves.Move.{Move}
use Rattle.read_string.specs.Ends.{Past, Fewer, adds}
use Rattle.payload_write.specs.Asks.{Copies}

-- a part that is added can be copied
pub part_asks : {s : Bytes} {i e : ℕ} {out : Bytes} → Past s i e → length (lexeme s i e) ≤ length out → Copies s i e out
part_asks {s} {i} {e} g h = record { within = g.within; room = omega (arith, length-slice i e s g.within) }

-- a character that is added can be encoded
pub char_asks : {i c e : ℕ} {out : Bytes} → Fewer i c e → length (encode c) ≤ length out → Encodes c out
char_asks g h = record { small = g.small; room = h }

-- where nothing is added nothing is written
pub nothing_put : (s : Bytes) (i : ℕ) (m k : Move) (out : Bytes) → m ≡ k → adds s i k ≡ [] → Wrote (adds s i m) out out 0
unfolding over
nothing_put s i m k out e q = rw (ap (adds s i) e ∙ q) (record { all = refl; bytes = refl })
