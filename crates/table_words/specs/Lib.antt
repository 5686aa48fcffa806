-- `Rows`: the definition's tables as rows of a number and a word, and which of them are tried.
pub mod Rows
pub mod Words
