-- `Accepted` is what a run that isn't refused was given, `Left` what is left to read, `Budget` what can still be written of payloads,
-- `Going` the loops of the definition gone on with.
pub mod Accepted
pub mod Left
pub mod Budget
pub mod Going
-- `Written` is what a run has written, `Split` runs one after another.
pub mod Written
pub mod Split
-- `Places` is where an item's positions stand.
pub mod Places
