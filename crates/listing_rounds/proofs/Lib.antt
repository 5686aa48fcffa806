-- `EitherRuns` is about one run, `RunsOn` about runs one after another, `Whole` about what they list in all, `Written` about what they have
-- written.
pub mod EitherRuns
pub mod RunsOn
pub mod Whole
pub mod Written
