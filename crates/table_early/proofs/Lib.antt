-- `Computed` is what is computed over the definition's table, `Searches` that what the search finds is what trying every word gives.
pub mod Computed
pub mod Searches
