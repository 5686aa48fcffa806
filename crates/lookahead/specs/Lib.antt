pub mod Lookahead
pub mod White
