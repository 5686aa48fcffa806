-- What belongs to no one function. `Laws` is what a reader cites; it rests on `Reading`, the equations of the definition's readers, on
-- `EncodingLaws`, the bytes of a character, on `Character`, decoding against encoding, on `Runs`, the characters from an offset on, on
-- `Star`, runs that pass a test, and on `Boundaries`, where characters start.
pub mod Reading
pub mod EncodingLaws
pub mod Character
pub mod Runs
pub mod Star
pub mod Boundaries
pub mod Laws
