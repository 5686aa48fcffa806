-- Each case is the definition's, and its sums fit because the whole length does.
use native.Mathlib.Omega.{arith}
use Rattle.reader.proofs.length_of.Goals as goal

pub text_length-requires : goal.text_length-requires
text_length-requires c = rw c.in-Text.is at c.requires.listed

pub overflow_add-result : goal.overflow_add-result
overflow_add-result c =
    let small = rw c.in-Greater.is at c.requires.small in
    omega (arith, c.saturating_sub-in-Greater.ensures)

pub overflow_add-result-in-FileLine : goal.overflow_add-result-in-FileLine
overflow_add-result-in-FileLine c =
    let small = rw c.in-FileLine.is at c.requires.small in
    omega (arith, c.show_length-in-FileLine.ensures)

pub overflow_add-result-in-FileLine-2 : goal.overflow_add-result-in-FileLine-2
overflow_add-result-in-FileLine-2 c =
    let small = rw c.in-FileLine.is at c.requires.small in
    omega (arith, c.show_length-in-FileLine.ensures)

pub overflow_add-result-in-Blob : goal.overflow_add-result-in-Blob
overflow_add-result-in-Blob c =
    let small = rw c.in-Blob.is at c.requires.small in
    omega (arith, c.saturating_sub-in-Blob.ensures, c.saturating_sub-in-Blob-2.ensures)

pub returns-in-Part : goal.returns-in-Part
returns-in-Part c = rw c.in-Part.is c.saturating_sub.ensures

pub returns-in-Text : goal.returns-in-Text
returns-in-Text c = rw c.in-Text.is c.text_length.ensures

pub returns-in-Greater : goal.returns-in-Greater
returns-in-Greater c = rw c.in-Greater.is (omega (arith, c.saturating_sub-in-Greater.ensures))

pub returns-in-Name : goal.returns-in-Name
returns-in-Name c = rw c.in-Name.is

pub returns-in-Line : goal.returns-in-Line
returns-in-Line c = rw c.in-Line.is c.show_length.ensures

pub returns-in-FileLine : goal.returns-in-FileLine
returns-in-FileLine c = rw c.in-FileLine.is (omega (arith, c.show_length-in-FileLine.ensures))

pub returns-in-Piece : goal.returns-in-Piece
returns-in-Piece c = rw c.in-Piece.is

pub returns-in-Blob : goal.returns-in-Blob
returns-in-Blob c = rw c.in-Blob.is (omega (arith, c.saturating_sub-in-Blob.ensures, c.saturating_sub-in-Blob-2.ensures))
