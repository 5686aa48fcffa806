-- Each case asks for what the description tells, and writes what it stands for.
use Rattle.payload_write.proofs.Parts.{copied}
use native.Mathlib.Omega.{arith}
use Rattle.payload_write.proofs.write.Goals as goal

pub copy_part-requires : goal.copy_part-requires
copy_part-requires c =
    let w = rw c.in-Part.is at c.requires in
    record { within = w.inside; room = w.room }

pub text_into-requires : goal.text_into-requires
text_into-requires c =
    let w = rw c.in-Text.is at c.requires in
    (w.inside, w.room)

pub write_greater-requires : goal.write_greater-requires
write_greater-requires c =
    let w = rw c.in-Greater.is at c.requires in
    (w.inside, w.room)

pub show_into-requires : goal.show_into-requires
show_into-requires c =
    let w = rw c.in-Line.is at c.requires in
    w.room

pub write_file_line-requires : goal.write_file_line-requires
write_file_line-requires c =
    let w = rw c.in-FileLine.is at c.requires in
    w.room

pub write_literal-requires : goal.write_literal-requires
write_literal-requires c =
    let w = rw c.in-Literal.is at c.requires in
    record { accepted = w.accepted; long = w.long; room = w.room }

pub write_trimmed-requires : goal.write_trimmed-requires
write_trimmed-requires c =
    let w = rw c.in-Piece.is at c.requires in
    record { within = w.inside; room = omega (arith, w.long, w.room) }

pub write_parts-requires : goal.write_parts-requires
write_parts-requires c =
    let w = rw c.in-Blob.is at c.requires in
    (w.inside, w.room)

pub returns-in-Part : goal.returns-in-Part
returns-in-Part c = rw c.in-Part.is c.copy_part.ensures.bytes

pub returns-in-Name : goal.returns-in-Name
returns-in-Name c = rw c.in-Name.is (copied _ c.copy_from_slice.ensures.after)

pub returns-in-Line : goal.returns-in-Line
returns-in-Line c = rw c.in-Line.is c.show_into.ensures.bytes

pub returns-in-Text : goal.returns-in-Text
returns-in-Text c = rw c.in-Text.is c.text_into.ensures

pub returns-in-Greater : goal.returns-in-Greater
returns-in-Greater c = rw c.in-Greater.is c.write_greater.ensures

pub returns-in-FileLine : goal.returns-in-FileLine
returns-in-FileLine c = rw c.in-FileLine.is c.write_file_line.ensures

pub returns-in-Literal : goal.returns-in-Literal
returns-in-Literal c = rw c.in-Literal.is c.write_literal.ensures

pub returns-in-Piece : goal.returns-in-Piece
returns-in-Piece c = rw c.in-Piece.is c.write_trimmed.ensures

pub returns-in-Blob : goal.returns-in-Blob
returns-in-Blob c = rw c.in-Blob.is c.write_parts.ensures
