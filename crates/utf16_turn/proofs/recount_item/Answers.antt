-- What is asked and given is asked and given by what is called.
use Prim.Native.Nat.{ℕ}
use mathlib.Core.Path.{refl, ap, ap₂}
use Rattle.utf16_positions.specs.declared.LineStart.{LineStart}
use Rattle.utf16_turn.proofs.recount_item.Goals as goal

pub recount-tally-requires : goal.recount-tally-requires
recount-tally-requires c =
    rw (c.line_in.ensures, c.line_in-line.ensures) c.requires

pub returns : goal.returns
returns c =
    let st = c.args.next.st in
    record {
      again = rw (← c.line_in.ensures, ← c.line_in-line.ensures, ← c.begun_in.ensures) c.recount-tally.ensures;
      state = ap₂ (λ (x y : ℕ). record { first = st; column = x; comment = y }) (ap (λ (x : LineStart). x.units) c.line_in-line.ensures) c.comment_in.ensures;
      known = refl;
    }
