-- `ShadowLaws` is that a turn looks at its records' buffer only for its length, `Parts` a part of a buffer written over again,
-- `SecondColumns` the second columns of lines and comments, `LookLaws` looking ahead, `TurnLaws` a turn of the second run.
pub mod ShadowLaws
pub mod Parts
pub mod SecondColumns
pub mod LookLaws
pub mod TurnLaws
