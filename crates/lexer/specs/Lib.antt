-- `Promises` is what `run` promises: the three demands, and document 02's K4.
pub mod Promises
-- `Utf16Promises` is what the second run promises (K2).
pub mod Utf16Promises
