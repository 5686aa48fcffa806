pub mod ItemLaws
pub mod LookaheadLaws
pub mod TurnLaws
pub mod WhiteLaws
