pub mod PlaceLaws
pub mod RecordLaws
pub mod PlainLaws
pub mod Seconds
