-- What is promised
pub mod Paths
pub mod Expansion
pub mod Form
pub mod Follows
pub mod Laws
-- What it rests on
pub mod Runs
-- From memory to plain values
pub mod Plain
