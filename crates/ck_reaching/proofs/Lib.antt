-- The theorem: with nothing listed the table has exactly what reaches each cell
pub mod RuleLemmas
pub mod TargetLists
-- The solver, step by step
pub mod StartLemmas
pub mod ConnectLemmas
pub mod LookLemmas
pub mod WorkLemmas
pub mod KnownLemmas
-- Rules, and their indices as they are filled
pub mod RangeLemmas
pub mod IndexedRules
pub mod IndexLemmas
-- Tables, sets and the worklist
pub mod TableLemmas
pub mod SetLemmas
pub mod ListingLemmas
