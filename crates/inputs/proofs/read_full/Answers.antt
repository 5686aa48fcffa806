-- A read fills what follows what was filled, and takes from the reader what it fills.
use Rattle.std.proofs.Common.{◌-◌, length, rules, subst, sym}
use Rattle.std.specs.Io.KnownBytes.{Consumes}
use Rattle.std.proofs.KnownBytes.{Consumes-trans}
use Rattle.inputs.proofs.Filling.{take_filled}
use Rattle.inputs.proofs.read_full.Goals as goal

pub loop-done-preserved : goal.loop-done-preserved
loop-done-preserved g c =
    let before = c.loop-done in
    let filled = take_filled before.done (length before.bytes - before.done) c.in_ok-n.n before.bytes c.read.new.buf before.invariant.within c.in_ok-n.ensures.bound.0 in
    record {
      same_length = search rules;
      within = search rules;
      taken = subst (Consumes _ _) (sym filled) (Consumes-trans _ _ _ _ _ before.invariant.taken c.in_ok-n.ensures.bytes.0);
    }
