-- What is promised
pub mod Reaching
pub mod Reached
-- What it rests on
pub mod Rules
pub mod Sets
-- Private
pub mod Joins
pub mod Growth
pub mod Indices
pub mod Listing
pub mod Known
pub mod Work
pub mod Solving
