-- What belongs to no one function. `ByteLaws`: tests of a byte, literals, the later of two ends, comments.
pub mod ByteLaws
