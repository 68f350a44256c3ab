-- What is promised
pub mod Solution
-- From memory to plain values
pub mod Alarms
pub mod Listing
-- Private
pub mod Passing
pub mod Growth
pub mod Callers
pub mod Roots
