-- `Computed` is what is computed over the definition's table, `Searches` that what the searches find is what trying every word gives.
pub mod Computed
pub mod Searches
