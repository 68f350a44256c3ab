-- What is promised
pub mod Arithmetic
pub mod ConstantTypes
pub mod Ranges
pub mod Compatibility
pub mod TableLaws
-- What it rests on: the integer types and their conversions, and C types
pub mod IntegerTypes
pub mod Types
-- From memory to plain values
pub mod TypeTable
pub mod Elements
pub mod SameNodes
pub mod NodeEquality
