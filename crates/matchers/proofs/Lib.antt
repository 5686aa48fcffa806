-- What belongs to no one function. `NameLaws`: line ends, and a character with a run after it.
pub mod NameLaws
-- What belongs to no one function. `QuoteLaws`: escapes, and names in backticks.
pub mod QuoteLaws
