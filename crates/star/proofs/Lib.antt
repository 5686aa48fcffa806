-- What belongs to no one function. `RunLaws`: one character that passes a test, and runs. `StopLaws`: runs up to one character or a line's
-- end, and the offset after a character. `CodeLaws`: what the functions ask of all these, over any test.
pub mod RunLaws
pub mod StopLaws
pub mod CodeLaws
