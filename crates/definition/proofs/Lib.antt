mod Computed
pub mod Tables
mod Cases
mod Limits
mod Utf16Cases
pub mod Samples
mod Closing
pub mod Refusals
