pub mod Names
pub mod Does
