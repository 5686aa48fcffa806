-- The text's bytes are written over the buffer's first ones.
use mathlib.Core.Path.{refl}
use Rattle.lemmas.specs.Over.{over}
use Rattle.table_entries.proofs.text_into.Goals as goal

pub returns : goal.returns
unfolding over
returns c = rw (c.copy_from_slice.ensures.after, c.text-bytes.ensures) refl
