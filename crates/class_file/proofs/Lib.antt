-- What belongs to no one function: `Tests` is a test of every place below a number, `Ranges` what an ascending list says of its ranges,
-- `Accepted` what the class check gives.
pub mod Tests
pub mod Ranges
pub mod Accepted
-- What belongs to no one function. `SearchLaws`: the search among ascending ranges.
pub mod SearchLaws
