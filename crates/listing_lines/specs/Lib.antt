-- `Line` is what the listing shows of an item, `Writing` what the functions that write it promise and ask for.
pub mod Line
pub mod Writing
