use Prim.Native.Nat.{ℕ, ◌-◌, ◌+◌, ◌<◌}
use mathlib.Core.Path.{◌≡◌}
use native.Mathlib.Omega.{arith}
use lib.Seq.{get_or-take, get_or-drop}
use Rattle.std.proofs.lemmas.List.{length-take}
use Rattle.position.proofs.Ascii.{joined_goes_on}
use Rattle.position.proofs.ascii_runs.ascii_block.Goals as goal

pub loop-b-preserved : goal.loop-b-preserved
loop-b-preserved c =
    let small : c.loop-b.b-index < 64 = omega (arith, simp length-take at c.loop-b-test.true) in
    let size : c.args.i + 64 - c.args.i ≡ 64 = omega arith in
    rw (size, get_or-take {A = ℕ} 64 _ c.loop-b.b-index 0 small, get_or-drop) (joined_goes_on c.args.text.now c.args.i _ _ small c.loop-b.invariant)
