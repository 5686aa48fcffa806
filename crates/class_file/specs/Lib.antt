-- `Ends` is the first and the last code point of a range of a list.
pub mod Ends
-- `Search` is what the search among ranges answers.
pub mod Search
