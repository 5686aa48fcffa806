pub mod Chains
pub mod Finds
pub mod LookupLengths
pub mod LengthLaws
