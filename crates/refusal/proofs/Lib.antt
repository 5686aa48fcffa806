pub mod Ladder
pub mod Utf16Ladder
