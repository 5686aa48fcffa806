-- What every step keeps: `Moving` is what each change of a state keeps, `Paths` what reading does to a state until an item is given,
-- `Forms` which forms an item has and `FormLaws` what each form keeps; then the one walk: `CommentReader`, `StringReader` and
-- `BlobReader` over the readers, `Rules` over the rules, `Steps` over turns, steps and every state that a run comes to. `Sizes` is how
-- long the parts of payloads are. `Choosing` is where a step gives its item, `ItemSpans` where the bytes stood that an item was read from,
-- `Places` where its positions stand. `Refusals` is what a run that isn't refused was given, `Demand3` the demand over a run,
-- `SampleReadings` what it says of some texts, `RunFuel` that a run ends; `Fuel` lists for every loop of the definition that its fuel never
-- runs out.
pub mod Moving
pub mod Paths
pub mod Sizes
pub mod Buffers
pub mod Forms
pub mod FormLaws
pub mod CommentReader
pub mod StringReader
pub mod BlobReader
pub mod Rules
pub mod Steps
pub mod Choosing
pub mod ItemSpans
pub mod Places
pub mod Refusals
pub mod Demand3
pub mod SampleReadings
pub mod RunFuel
pub mod Fuel
-- `Laws` is what a reader cites. It rests on `Items`, the steps of a text one by one, `Buffers`, what is written for some items,
-- `RunTurns`, the induction over a run's turns, and `Finding`, what follows from what a run has done.
pub mod Items
pub mod RunTurns
pub mod Finding
pub mod Laws
