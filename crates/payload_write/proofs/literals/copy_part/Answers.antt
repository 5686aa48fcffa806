-- What was copied is the part, and what stood after it is still there.
use mathlib.Core.Path.{ap, ◌∙◌}
use lib.ListN.{length}
use Rattle.definition.specs.Basics.{Bytes}
use Rattle.lemmas.specs.Over.{over}
use Rattle.payload_write.proofs.Parts.{copied}
use Rattle.payload_write.proofs.literals.copy_part.Goals as goal

pub returns : goal.returns
returns c =
    let e = c.part-bytes.ensures in
    let out = c.args.out.now in
    record { all = ap length e; bytes = copied out c.copy_from_slice.ensures.after ∙ ap (λ (v : Bytes). over v out) e }
