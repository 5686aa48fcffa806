-- `Same` is what the second run has in common with the first, `Accepted` what a second run that isn't refused was given, `Written` what it
-- has written.
pub mod Same
pub mod Accepted
pub mod Written
