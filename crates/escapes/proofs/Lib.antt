pub mod Hex
pub mod EscapeLaws
pub mod Surrogates
