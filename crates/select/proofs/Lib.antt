-- `First` is the law that the first character decides; `Standing`, what is known where a character of a list stands; `Groups` and `Others`,
-- what is chosen at ASCII characters; `BeyondAscii`, at any other.
pub mod First
pub mod Standing
pub mod Groups
pub mod BeyondAscii
pub mod Others
