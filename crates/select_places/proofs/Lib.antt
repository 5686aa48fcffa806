-- `Chains`: choices put together from what each call answered.
pub mod Chains
