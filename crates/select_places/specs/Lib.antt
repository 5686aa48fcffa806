-- `Groups`: what may be chosen at each first character.
pub mod Groups
