pub mod Moves
pub mod Contents
