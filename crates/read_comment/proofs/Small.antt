-- The numbers of a sound state are small. Rests on the laws of sound states.
use Prim.Native.Nat.{◌+◌, ◌≤◌}
use native.Mathlib.Omega.{arith}
use lib.ListN.{length}
use Rattle.definition.specs.Basics.{Bytes}
use Rattle.definition.specs.declared.State.{State}
use Rattle.state.specs.Sound.{Stands}
use Rattle.laws_run.proofs.Moving.{stands_within}

-- the numbers of a sound state fit with room
pub record Small (s : Bytes) (st : State) : Type 0 where
  pub within : st.offset ≤ length s
  pub offset : st.offset ≤ 1048576
  pub line : st.line ≤ 2048576
  pub counts : st.comments + st.depth ≤ 1048576

pub small : {s : Bytes} {st : State} → Stands s st → Small s st
small {s} {st} h =
    let w = stands_within h in
    let m = h.sound in
    record {
      within = w;
      offset = omega (arith, h.short);
      line = omega (arith, h.short, m.line);
      counts = omega (arith, h.short, m.comments);
    }
