-- Where there are bytes, each of the two cases asks for what the description tells, and writes what it stands for; no other is left.
use Rattle.payload_write.proofs.Short.{part_fits, text_fits, nothing_short, no_other}
use Rattle.payload_write.proofs.write_short.Goals as goal

pub returns-then-size-eq0 : goal.returns-then-size-eq0
returns-then-size-eq0 c name f = nothing_short name f _ _ c.if-size-eq0.true c.requires

pub copy_part-requires : goal.copy_part-requires
copy_part-requires c = part_fits (rw c.in-Part.is at c.requires)

pub text_into-requires : goal.text_into-requires
text_into-requires c = text_fits (rw c.in-Text.is at c.requires)

pub returns-in-Part : goal.returns-in-Part
returns-in-Part c name f = rw c.in-Part.is c.copy_part.ensures.bytes

pub returns-in-Text : goal.returns-in-Text
returns-in-Text c name f = rw c.in-Text.is c.text_into.ensures

pub returns-in_default : goal.returns-in_default
returns-in_default c name f = absurd (no_other c.args.payload _ c.requires (record { part = c.in_default.not-Part; text = c.in_default.not-Text }))
