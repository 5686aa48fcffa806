-- What belongs to no one function. `IntegerLaws`: matchers put together, and suffixes after either end of an integer.
pub mod IntegerLaws
-- What belongs to no one function. `NumberLaws`: fractions, exponents, and numbers that go wrong.
pub mod NumberLaws
