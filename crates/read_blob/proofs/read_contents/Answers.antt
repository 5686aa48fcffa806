use Prim.Native.Nat.{◌-◌}
use mathlib.Core.List.{[]}
use Rattle.read_blob.proofs.TurnLaws.{reading_starts, reading_goes_on, reading_ends}
use Rattle.read_blob.proofs.read_contents.Goals as goal

pub loop-r-init : goal.loop-r-init
loop-r-init c = reading_starts c.requires

pub turn-requires : goal.turn-requires
turn-requires c = c.loop-r.invariant.inside

pub returns-in-Done : goal.returns-in-Done
returns-in-Done c =
    λ f. reading_ends c.loop-r.invariant _ f _ (rw c.in-Done.is at (c.turn.ensures f))

pub loop-r-smaller : goal.loop-r-smaller
loop-r-smaller c =
    (reading_goes_on c.loop-r.invariant _ [] _ (rw c.in-Again.is at (c.turn.ensures []))).1

pub loop-r-preserved : goal.loop-r-preserved
loop-r-preserved c =
    (reading_goes_on c.loop-r.invariant _ [] _ (rw c.in-Again.is at (c.turn.ensures []))).0
