-- `Cases` is about definitions that go by a test or a match, `Loops` about the definition's loops, `Each` about a fact for each
-- element of a list, `Lists` about parts of lists, `Members` about a number among those of a list, `Over` about buffers that are
-- written over, `Copies` about bytes that are written to one by one, `Tails` about their
-- tails, `Pointed` about tables of references, `Results` about what a `?` hands up.
pub mod Cases
pub mod Loops
pub mod Each
pub mod Lists
pub mod Members
pub mod Over
pub mod Copies
pub mod Tails
pub mod Pointed
pub mod Results
