-- What is promised
pub mod Promise
-- What it rests on
pub mod Tallies
pub mod Places
