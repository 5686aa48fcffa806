pub mod ItemLaws
pub mod WholeLaws
pub mod Utf16ItemLaws
pub mod Utf16WholeLaws
pub mod FirstStarts
