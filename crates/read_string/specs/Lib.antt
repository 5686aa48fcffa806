pub mod Literal
pub mod Asks
pub mod Moves
pub mod Ends
