pub mod Keys
pub mod Plain
pub mod Tabled
pub mod Rules
