-- What is promised
pub mod Placed
pub mod Report
pub mod Texts
pub mod Laws
-- What it rests on
pub mod Lines
-- From memory to plain values
pub mod Views
-- Private
pub mod Printing
