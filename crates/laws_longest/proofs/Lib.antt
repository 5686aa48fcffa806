-- `Law` is what a reader cites. It rests, from the ground up, on `Language`, what an expression permits by offsets; on `Ends`, right
-- answers of matchers; on `Starts`, the first characters of an expression; on `Best`, the choice among places; on the shapes of patterns,
-- from `Shapes` to `Numbers`; and on `Places` and `Choosing`, the 50 places and the choice among them. `ThreeEnds` stands beside it: a law of
-- bad numbers that the code rests on.
pub mod Language
pub mod Ends
pub mod Starts
pub mod Best
pub mod Shapes
pub mod Literals
pub mod Backticks
pub mod Families
pub mod Continues
pub mod Integers
pub mod Floats
pub mod BadNumbers
pub mod ThreeEnds
pub mod Places
pub mod Choosing
pub mod Numbers
pub mod Law
