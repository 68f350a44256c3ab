-- The solution, and what a look at a point does
pub mod Solutions
pub mod PointLemmas
pub mod RootLemmas
pub mod Targets
-- The table and the worklist as they grow
pub mod Additions
pub mod TableLemmas
pub mod Permutations
pub mod CallLists
-- States as the numbers of a relation
pub mod StateCodes
pub mod StateLemmas
-- Alarms
pub mod AlarmSets
pub mod AlarmLemmas
pub mod OrderLemmas
