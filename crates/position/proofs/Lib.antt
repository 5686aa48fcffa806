pub mod Counting
pub mod Weights
pub mod Ascii
pub mod Skips
