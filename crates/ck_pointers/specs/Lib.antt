-- What is promised
pub mod Sources
pub mod ExpressionSources
pub mod Giving
-- What it rests on: which rows are those of a typed project's slots
pub mod TypedSlots
