pub mod ReadOn
pub mod Characters
