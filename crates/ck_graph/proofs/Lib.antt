-- What is reached is in each closed relation, what is derived is reached, and how walks go on
pub mod Coverage
pub mod MatchedPaths
-- One list of alarms
pub mod OneList
-- What a sound graph says of its points
pub mod SoundGraphs
pub mod PartLemmas
-- Worked examples, computed on the definitions
pub mod WorkedRows
