-- `PieceLaws` is about a piece that has ended, `TurnLaws` about one turn of `comment`, `LoopLaws` about its loop.
pub mod PieceLaws
pub mod TurnLaws
pub mod LoopLaws
-- `Small` is about the numbers of a sound state, `ReadLaws` about what is read.
pub mod Small
pub mod ReadLaws
