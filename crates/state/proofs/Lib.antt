-- `Soundness` is what the soundness test says; the others are the cases of a function each.
pub mod Soundness
mod Starting
