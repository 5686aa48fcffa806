pub mod Values
pub mod Stripping
pub mod Digits
