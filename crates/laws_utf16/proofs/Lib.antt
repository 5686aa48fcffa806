-- `Refusals` is what a second run that isn't refused was given. `Records` is which words of an item's record the second run changes,
-- `Positions` what its positions are, `Steps` its steps one after another, beside the first run's, and `OneStep` one of them: its record
-- and the state after it.
pub mod Refusals
pub mod Records
pub mod Positions
pub mod Steps
pub mod OneStep
-- A reader cites `Runs`, what a second run has done and runs one after another, and `SameItems`, that it gives the first run's items.
pub mod Runs
pub mod SameItems
