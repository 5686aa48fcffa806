-- The name's bytes are written over the buffer's first ones.
use mathlib.Core.Path.{refl}
use Rattle.lemmas.specs.Over.{over}
use Rattle.listing_lines.proofs.kind_names.name_into.Goals as goal

pub returns : goal.returns
unfolding over
returns c = rw (c.copy_from_slice.ensures.after, c.name-bytes.ensures) (record { all = refl; bytes = refl })
