pub mod BlockLaws
pub mod LowercaseTable
pub mod WithoutLetters
