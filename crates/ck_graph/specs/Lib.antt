-- What is promised
pub mod Forbidden
pub mod Faults
pub mod Summary
pub mod MatchedPath
-- What it rests on
pub mod Walk
pub mod Steps
-- From memory to plain values
pub mod Flow
