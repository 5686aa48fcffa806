-- `Coverage` is document 02's K4: what the reading of a text takes, and that nothing is lost between its items. `Records` is K4 in that
-- document's words, over the records of runs. `Cases` is a table of texts with what is taken of them.
pub mod Coverage
pub mod Records
pub mod Cases
