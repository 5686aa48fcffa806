-- `RowLaws`: trying rows in turn, and which rows may be left out. `TableLaws`: rows of padded bytes.
pub mod RowLaws
pub mod TableLaws
pub mod WordLaws
