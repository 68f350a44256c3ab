mod Arrangements
mod Choices
mod Decisions
pub mod DrawnPassages
pub mod NamedEntries
mod Nodes
mod OperandLists
mod Rows
mod Splits
mod Walking
