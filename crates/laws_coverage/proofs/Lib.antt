-- `Turns` is the induction over the turns of a reading; `Parts` is where the bytes stand that each takes, `Skips` what is skipped,
-- `Counting` how bytes are counted. `Law` is that nothing is lost between items, `Records` the same over the records of runs, `Cases` the
-- computed table.
pub mod Turns
pub mod Parts
pub mod Skips
pub mod Counting
pub mod Law
pub mod Records
pub mod Cases
