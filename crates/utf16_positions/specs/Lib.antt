pub mod Places
pub mod Asks
pub mod Plain
