-- From memory to plain values
pub mod Constants
