pub mod Columns
pub mod AsciiRuns
