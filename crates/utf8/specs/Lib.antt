-- `Chars`: the characters that are read from an offset on.
pub mod Chars
pub mod Asks
