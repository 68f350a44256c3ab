-- Theorems: what the calls do to the pairs
pub mod Unions
pub mod Compositions
pub mod SinglePairs
-- What they rest on: relations as lists of pairs
pub mod PairLists
pub mod Choices
