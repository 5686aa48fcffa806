-- `Parts`: parts of the definition's matchers that have a function of their own.
pub mod Parts
