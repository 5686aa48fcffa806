pub mod Keys
pub mod PlainLaws
