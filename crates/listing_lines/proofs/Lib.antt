-- `LineLaws` is about lines and how they are written; `Example` computes document 01's lines.
pub mod LineLaws
pub mod Example
