-- From memory to plain values
pub mod Views
-- The grammar's loops by their steps
pub mod Steps
-- Private
pub mod Specifying
pub mod Enumerating
pub mod Ends
