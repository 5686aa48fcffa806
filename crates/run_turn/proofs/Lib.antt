-- `AheadLaws` is what stands ahead of a run, `TurnLaws` what a turn does, `RunLaws` a run that goes on.
pub mod AheadLaws
pub mod TurnLaws
pub mod RunLaws
