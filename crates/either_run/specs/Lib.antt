-- `Either` is what a run of either kind gives, and what is said of one.
pub mod Either
