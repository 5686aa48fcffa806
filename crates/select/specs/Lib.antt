-- `Standing`: what is lent, and which character stands at an offset.
pub mod Standing
