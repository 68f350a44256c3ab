-- From memory to plain values
pub mod Parts
