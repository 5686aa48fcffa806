-- Each case is the definition's.
use mathlib.Core.Path.{sym}
use Rattle.reader.proofs.Short.{short_other}
use Rattle.reader.proofs.short_length.Goals as goal

pub text_length-requires : goal.text_length-requires
text_length-requires c = rw c.in-Text.is at c.requires

pub returns-in-Part : goal.returns-in-Part
returns-in-Part c = rw (c.in-Part.is, c.saturating_sub.ensures)

pub returns-in-Text : goal.returns-in-Text
returns-in-Text c = rw (c.in-Text.is, c.text_length.ensures)

pub returns-in_default : goal.returns-in_default
returns-in_default c = sym (short_other c.args.payload (record { part = c.in_default.not-Part; text = c.in_default.not-Text }))
