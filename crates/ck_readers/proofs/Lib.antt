mod ExpressionLoops
mod LookLemmas
pub mod Loops
mod NameLemmas
pub mod Readings
mod SameWords
mod Unspelled
