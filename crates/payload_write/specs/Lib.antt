pub mod Writable
pub mod Asks
