-- `Beyond`: runs beyond ASCII. `Blanks`: the white space of ASCII. `Stops`: the characters that end a run. `TestLaws`: what the laws of the tests' traits ask.
pub mod Beyond
pub mod Blanks
pub mod Stops
pub mod TestLaws
