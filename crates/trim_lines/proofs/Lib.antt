-- `Pieces` is about the part of the text that a piece is made of, `Widths` about the width of a piece, `Kept` about the bytes that stay,
-- `Lines` says that they are the trimmed lines, `Counting` is about counting them and `Writing` about writing them; `Trimming` says that
-- width and bytes together are `maybe_trim_lines`.
pub mod Pieces
pub mod Widths
pub mod Kept
pub mod Lines
pub mod Counting
pub mod Writing
pub mod Trimming
