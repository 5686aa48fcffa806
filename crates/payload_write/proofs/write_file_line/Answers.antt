-- The mark stands after the name.
use mathlib.Core.Path.{refl}
use Rattle.lemmas.proofs.Tails.{written_after}
use Rattle.payload_write.proofs.Parts.{copied}
use Rattle.payload_write.proofs.write_file_line.Goals as goal

pub returns : goal.returns
returns c =
    written_after c.args.out.now _ _ c.args.name.now _ _
    (copied c.args.out.now c.copy_from_slice.ensures.after) refl c.write_mark.ensures
