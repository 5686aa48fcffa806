pub mod MoveLaws
pub mod TurnLaws
pub mod ClosedLaws
